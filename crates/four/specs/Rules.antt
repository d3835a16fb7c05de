-- The seven rules under the four numbers, in document 01's wording and order. Those of wires and points alone are `sheet`'s.
use Rattle.std.specs.Prelude.{◌≤◌, List, T}
use Rattle.lists.specs.Lists.{◌∈◌, Rows}
use Rattle.orientation.specs.Orientations.{known}
use Rattle.label.specs.Labels.{label_ok}
use Rattle.sheet.specs.declared.Wire.{Wire}
use Rattle.sheet.specs.declared.Joint.{Joint}
use Rattle.sheet.specs.Points.{Rise}
use Rattle.sheet.specs.Wiring.{Fits}
use Rattle.sheet.specs.Boxes.{Shares}
use Rattle.sheet.specs.Joints.{Rising}
use Rattle.sheet.specs.Drawings.{zero_wire, zero_joint, joint_rows}
use Rattle.sheet.specs.Rules.{Blank, Upward, Rule2, Rule3, Rule4, Rule6}
use Rattle.four.specs.Plans.{Part, Plan, Drawing, position, box, pads_of, marks_of, zero_part, lists_of}

-- "Kind: 0 Power, 1 Contact, 2 Coil. Orientation: four signed numbers that are one of the eight. Component position:
-- −5,800 to 5,800. Label: 0 to 16 bytes, each 0x21 to 0x7E, held in 16 bytes with zeros behind."
pub record PartFits (c : Part) : Type 0 where
  pub kind : c.kind ≤ 2
  pub orientation : T (known c.turn)
  pub x : (200 ≤ c.x) × (c.x ≤ 11800)
  pub y : (200 ≤ c.y) × (c.y ≤ 11800)
  pub label : T (label_ok c.label)

-- 1: "counts are within the rooms, rows beyond the counts are all zero, and each wire and component meets the limits, a wire with start <
-- end"
pub record Rule1 (d : Drawing) : Type 0 where
  pub wire_room : d.wires.count ≤ 512
  pub component_room : d.components.count ≤ 128
  pub joint_room : d.joints.count ≤ 1408
  pub wires_blank : Blank zero_wire d.wires.count d.wires.rows
  pub components_blank : Blank zero_part d.components.count d.components.rows
  pub joints_blank : Blank zero_joint d.joints.count d.joints.rows
  pub wires_fit : (w : Wire) → w ∈ (lists_of d).wires → Fits w
  pub components_fit : (c : Part) → c ∈ (lists_of d).parts → PartFits c

-- 5: "no two component boxes share a point, edges counted"
abbrev pub Rule5 : List Part → Type 0
Rule5 cs = Rows (λ b c. Shares (box b) (box c) → ⊥) cs

-- 7: "rows strictly rise: horizontal wires by (y, x1), then vertical by (x, y1); components and joints by (y, x)"
pub record Rule7 (s : Plan) (js : List Joint) : Type 0 where
  pub wires_rise : Rows Upward s.wires
  pub components_rise : Rows (λ b c. Rise (position b) (position c)) s.parts
  pub joints_rise : Rising js

-- the drawing is lawful
pub record Lawful (d : Drawing) : Type 0 where
  pub rule1 : Rule1 d
  pub rule2 : Rule2 (lists_of d).wires
  pub rule3 : Rule3 (lists_of d).wires (pads_of (lists_of d).parts)
  pub rule4 : Rule4 (lists_of d).wires (pads_of (lists_of d).parts)
  pub rule5 : Rule5 (lists_of d).parts
  pub rule6 : Rule6 (joint_rows d.joints) (marks_of (lists_of d))
  pub rule7 : Rule7 (lists_of d) (joint_rows d.joints)
