-- A sheet is a list of wires and a list of components, both in row order; a drawing is its tables, with the joints counted.
use Rattle.std.specs.Prelude.{false, List, [], ◌≡◌, length, take, replicate}
use Rattle.lists.specs.Lists.{◌∈◌}
use Rattle.lists.specs.Tables.{pad}
use Rattle.symbol.specs.declared.Point.{Point}
use Rattle.sheet.specs.declared.Wire.{Wire}
use Rattle.sheet.specs.declared.Component.{Component}
use Rattle.sheet.specs.declared.Joint.{Joint}
use Rattle.sheet.specs.Tables.{Wires}
use Rattle.sheet.specs.Tables.{Components}
use Rattle.sheet.specs.Tables.{Joints}
use Rattle.sheet.specs.declared.Drawing.{Drawing}
use Rattle.sheet.specs.declared.Tally.{Tally}
use Rattle.sheet.specs.Geometry.{marks}
use Rattle.sheet.specs.Parts.{pads_of}
use Rattle.sheet.specs.Joints.{joints_of, total}

-- wires and components in row order; the joint rows are told by them
pub record Sheet : Type 0 where
  pub wires : List Wire
  pub parts : List Component

-- "starts from the empty drawing"
abbrev pub empty_sheet : Sheet
empty_sheet = record { wires = []; parts = [] }

-- all wire ends and pads
abbrev pub marks_of : Sheet → List Point
marks_of s = marks s.wires (pads_of s.parts)

-- the joint rows
unfoldable pub joints : Sheet → List Joint
joints s = joints_of (marks_of s)

-- ---- rows of zeros, and tables

-- a wire of zeros: "no for horizontal, as in a zero row"
abbrev pub zero_wire : Wire
zero_wire = record { vertical = false; line = 0; start = 0; end = 0 }

-- a component of zeros
abbrev pub zero_component : Component
zero_component = record { kind = 0; orientation = 0; x = 0; y = 0; label = replicate 16 0 }

-- a joint of zeros
abbrev pub zero_joint : Joint
zero_joint = record { x = 0; y = 0; count = 0 }

-- the table of wires. "512 wires, 128 components, 1,408 joints"; "rows beyond the counts are all zero"
abbrev pub wire_table : List Wire → Wires
wire_table ws = record { rows = pad 512 zero_wire ws; count = length ws }

-- the table of components
abbrev pub component_table : List Component → Components
component_table cs = record { rows = pad 128 zero_component cs; count = length cs }

-- the table of joints
abbrev pub joint_table : List Joint → Joints
joint_table js = record { rows = pad 1408 zero_joint js; count = length js }

-- the wires in use
abbrev pub wire_rows : Wires → List Wire
wire_rows t = take t.count t.rows

-- the components in use
abbrev pub component_rows : Components → List Component
component_rows t = take t.count t.rows

-- the joints in use
abbrev pub joint_rows : Joints → List Joint
joint_rows t = take t.count t.rows

-- the sheet that a drawing holds
abbrev pub lists_of : Drawing → Sheet
lists_of d = record { wires = wire_rows d.wires; parts = component_rows d.components }

-- the drawing of a sheet
unfoldable pub drawn : Sheet → Drawing
drawn s = record { wires = wire_table s.wires; components = component_table s.parts; joints = joint_table (joints s) }

-- the arrays have their declared lengths, as in every drawing that code holds; the type of a drawing's value does not say so
pub record Sized (d : Drawing) : Type 0 where
  pub wires : length d.wires.rows ≡ 512
  pub components : length d.components.rows ≡ 128
  pub joints : length d.joints.rows ≡ 1408
  pub labels : (c : Component) → c ∈ d.components.rows → length c.label ≡ 16

-- "the numbers of wires, joints and components and the sum of all joint counts"
unfoldable pub tally_of : Sheet → Tally
tally_of s = record { wires = length s.wires; joints = length (joints s); components = length s.parts; ends = total (joints s) }
