-- A drawing is lawful: the seven rules, in document 01's wording and order. They speak of rows in any order, but for rule 7.
use Rattle.std.specs.Prelude.{ℕ, ◌≤◌, ◌<◌, Bool, false, true, not, List, ◌≡◌, ◌≢◌, drop}
use Rattle.std.specs.Bool.{beq}
use Rattle.lists.specs.Lists.{◌∈◌, Rows}
use Rattle.std.specs.List.{filter}
use Rattle.symbol.specs.declared.Point.{Point}
use Rattle.sheet.specs.declared.Wire.{Wire}
use Rattle.sheet.specs.declared.Component.{Component}
use Rattle.sheet.specs.declared.Joint.{Joint}
use Rattle.sheet.specs.declared.Drawing.{Drawing}
use Rattle.sheet.specs.Points.{Rise}
use Rattle.sheet.specs.Geometry.{ends, marks, Inside}
use Rattle.sheet.specs.Wiring.{Fits}
use Rattle.sheet.specs.Boxes.{Shares}
use Rattle.sheet.specs.Joints.{joint_point, number, Rising}
use Rattle.sheet.specs.Parts.{position, box, pads_of, PartFits}
use Rattle.sheet.specs.Drawings.{Sheet, marks_of, zero_wire, zero_component, zero_joint, lists_of, joint_rows}

-- two wires of one direction that share a length of line
pub record Share (a b : Wire) : Type 0 where
  pub dir : a.vertical ≡ b.vertical
  pub line : a.line ≡ b.line
  pub from : a.start < b.end
  pub to : b.start < a.end

-- horizontal wires by (y, x1), then vertical by (x, y1)
pub data Upward (a b : Wire) : Type 0 where
  upright : a.vertical ≡ false → b.vertical ≡ true → Upward a b
  up : a.vertical ≡ b.vertical → a.line < b.line → Upward a b
  along : a.vertical ≡ b.vertical → a.line ≡ b.line → a.start < b.start → Upward a b

-- the ends at p of the wires of direction d
unfoldable pub ends_at : Bool → List Wire → Point → ℕ
ends_at d ws p = number p (ends (filter (λ w. beq w.vertical d) ws))

-- the rows from n on are all z
abbrev pub Blank : {A : Type 0} → A → ℕ → List A → Type 0
Blank {A} z n rows = (x : A) → x ∈ drop n rows → x ≡ z

-- 1: "counts are within the rooms, rows beyond the counts are all zero, and each wire and component meets the limits, a wire with start <
-- end"
pub record Rule1 (d : Drawing) : Type 0 where
  pub wire_room : d.wires.count ≤ 512
  pub component_room : d.components.count ≤ 128
  pub joint_room : d.joints.count ≤ 1408
  pub wires_blank : Blank zero_wire d.wires.count d.wires.rows
  pub components_blank : Blank zero_component d.components.count d.components.rows
  pub joints_blank : Blank zero_joint d.joints.count d.joints.rows
  pub wires_fit : (w : Wire) → w ∈ (lists_of d).wires → Fits w
  pub components_fit : (c : Component) → c ∈ (lists_of d).parts → PartFits c

-- 2: "no two wires of one direction share a length of line"
abbrev pub Rule2 : List Wire → Type 0
Rule2 ws = Rows (λ a b. Share a b → ⊥) ws

-- 3: "no wire end and no pad lies strictly inside a wire"
abbrev pub Rule3 : List Wire → List Point → Type 0
Rule3 ws ps = (p : Point) → p ∈ marks ws ps → (w : Wire) → w ∈ ws → Inside p w → ⊥

-- 4: "no point holds exactly two wire ends in line and no pad"
abbrev pub Rule4 : List Wire → List Point → Type 0
Rule4 ws ps = (p : Point) (v : Bool) → ends_at v ws p ≡ 2 → ends_at (not v) ws p ≡ 0 → (p ∈ ps → ⊥) → ⊥

-- 5: "no two component boxes share a point, edges counted"
abbrev pub Rule5 : List Component → Type 0
Rule5 cs = Rows (λ b c. Shares (box b) (box c) → ⊥) cs

-- 6: "the joint rows list each point with a wire end or pad once, with the number of both, and nothing else"
pub record Rule6 (js : List Joint) (ps : List Point) : Type 0 where
  pub once : Rows (λ i j. joint_point i ≢ joint_point j) js
  pub all : (p : Point) → p ∈ ps → (j : Joint) × j ∈ js × (joint_point j ≡ p)
  pub only : (j : Joint) → j ∈ js → joint_point j ∈ ps
  pub right : (j : Joint) → j ∈ js → j.count ≡ number (joint_point j) ps

-- 7: "rows strictly rise: horizontal wires by (y, x1), then vertical by (x, y1); components and joints by (y, x)"
pub record Rule7 (s : Sheet) (js : List Joint) : Type 0 where
  pub wires_rise : Rows Upward s.wires
  pub components_rise : Rows (λ b c. Rise (position b) (position c)) s.parts
  pub joints_rise : Rising js

-- the drawing is lawful
pub record Lawful (d : Drawing) : Type 0 where
  pub rule1 : Rule1 d
  pub rule2 : Rule2 (lists_of d).wires
  pub rule3 : Rule3 (lists_of d).wires (pads_of (lists_of d).parts)
  pub rule4 : Rule4 (lists_of d).wires (pads_of (lists_of d).parts)
  pub rule5 : Rule5 (lists_of d).parts
  pub rule6 : Rule6 (joint_rows d.joints) (marks_of (lists_of d))
  pub rule7 : Rule7 (lists_of d) (joint_rows d.joints)
