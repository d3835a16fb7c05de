-- The drawing under the four numbers, in document 01's wording: a component's orientation is "four signed numbers that are one of the
-- eight". Wires, joints and all that is said of them alone are `sheet`'s; a plan is what `sheet` calls a sheet.
use Rattle.std.specs.Prelude.{ℕ, Bool, List, length, take, replicate}
use Rattle.std.specs.List.{flat_map}
use Rattle.lists.specs.Tables.{pad}
use Rattle.orientation.specs.declared.RotMirror.{RotMirror}
use Rattle.orientation.specs.Orientations.{zeros}
use Rattle.symbol.specs.declared.Point.{Point}
use Rattle.symbol.specs.declared.Bounds.{Bounds}
use Rattle.symbol.specs.Symbols.{pad_points, bounds_at, touches_of}
use Rattle.sheet.specs.declared.Wire.{Wire}
use Rattle.sheet.specs.declared.Joint.{Joint}
use Rattle.sheet.specs.Tables.{Wires}
use Rattle.sheet.specs.Tables.{Joints}
use Rattle.sheet.specs.declared.Tally.{Tally}
use Rattle.sheet.specs.Points.{rises}
use Rattle.sheet.specs.Geometry.{marks}
use Rattle.sheet.specs.Joints.{joints_of, total}
use Rattle.sheet.specs.Drawings.{wire_table, wire_rows, joint_table}

-- ---- components

-- a component with its four numbers
pub record Part : Type 0 where
  pub kind : ℕ
  pub turn : RotMirror
  pub x : ℕ
  pub y : ℕ
  pub label : List ℕ

abbrev pub position : Part → Point
position c = record { x = c.x; y = c.y }

abbrev pub box : Part → Bounds
box c = bounds_at c.kind c.turn c.x c.y

abbrev pub pads : Part → List Point
pads c = pad_points c.kind c.turn c.x c.y

abbrev pub pads_of : List Part → List Point
pads_of cs = flat_map pads cs

abbrev pub touches : Part → Part → Bool
touches b c = touches_of (box b) (box c)

-- row order: by y, then by x
abbrev pub ahead : Part → Part → Bool
ahead b c = rises (position b) (position c)

-- the component with another orientation
abbrev pub reoriented : (RotMirror → RotMirror) → Part → Part
reoriented f c = record { kind = c.kind; turn = f c.turn; x = c.x; y = c.y; label = c.label }

-- ---- plans

-- wires and components in row order
pub record Plan : Type 0 where
  pub wires : List Wire
  pub parts : List Part

abbrev pub marks_of : Plan → List Point
marks_of s = marks s.wires (pads_of s.parts)

unfoldable pub joints : Plan → List Joint
joints s = joints_of (marks_of s)

-- "the numbers of wires, joints and components and the sum of all joint counts"
unfoldable pub tally_of : Plan → Tally
tally_of s = record { wires = length s.wires; joints = length (joints s); components = length s.parts; ends = total (joints s) }

-- ---- tables

pub record Parts : Type 0 where
  pub rows : List Part
  pub count : ℕ

pub record Drawing : Type 0 where
  pub wires : Wires
  pub components : Parts
  pub joints : Joints

-- a component of zeros: four zeros are none of the eight
abbrev pub zero_part : Part
zero_part = record { kind = 0; turn = zeros; x = 0; y = 0; label = replicate 16 0 }

abbrev pub part_table : List Part → Parts
part_table cs = record { rows = pad 128 zero_part cs; count = length cs }

abbrev pub part_rows : Parts → List Part
part_rows t = take t.count t.rows

-- the plan that a drawing holds
abbrev pub lists_of : Drawing → Plan
lists_of d = record { wires = wire_rows d.wires; parts = part_rows d.components }

-- the drawing of a plan
unfoldable pub drawn : Plan → Drawing
drawn s = record { wires = wire_table s.wires; components = part_table s.parts; joints = joint_table (joints s) }
