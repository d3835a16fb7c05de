-- What the laws of the edits ask and keep of a sheet; wires that go on in line, and what holds them apart.
use Prim.Native.Nat.{◌≤◌}
use mathlib.Core.Bool.{Bool, not}
use mathlib.Core.List.{List}
use mathlib.Core.Path.{◌≡◌, sym, subst, ◌∙◌}
use mathlib.Core.Logic.{⊎_elim, inl, inr}
use native.Mathlib.Omega.{arith}
use lib.ListN.{length}
use Rattle.lists.specs.Lists.{◌∈◌, Rows}
use Rattle.symbol.specs.declared.Point.{Point}
use Rattle.sheet.specs.declared.Wire.{Wire}
use Rattle.sheet.specs.declared.Component.{Component}
use Rattle.sheet.specs.Points.{Rise}
use Rattle.sheet.specs.Boxes.{Shares}
use Rattle.sheet.specs.Parts.{position, box, pads_of, PartFits}
use Rattle.sheet.specs.Drawings.{Sheet}
use Rattle.sheet.specs.Geometry.{tip, Ends, Follows, low, high}
use Rattle.sheet.specs.Wiring.{HeldApart, Ended, Wired}
use Rattle.sheet.proofs.Geometry.{same_dir, ends_at_lem, ends_is, HasEnd, marks_in, in_marks}

-- the wire may be drawn: coordinates in range, the start not greater than the end
pub record Drawable (n : Wire) : Type 0 where
  pub line : n.line ≤ 12000
  pub order : n.start ≤ n.end
  pub end : n.end ≤ 12000

-- rules 1 to 5 and 7 of a sheet, without the rooms
pub record Good (s : Sheet) : Type 0 where
  pub wires : Wired s.wires (pads_of s.parts)
  pub fits : (c : Component) → c ∈ s.parts → PartFits c
  pub order : Rows (λ b c. Rise (position b) (position c)) s.parts
  pub apart : Rows (λ b c. Shares (box b) (box c) → ⊥) s.parts

-- the sheet has room in the tables
pub record Roomy (s : Sheet) : Type 0 where
  pub wires : length s.wires ≤ 512
  pub parts : length s.parts ≤ 128

-- ---- wires in line

pub ends_follow : {p : Point} {a b : Wire} → a.vertical ≡ b.vertical → Ends high p a → Ends low p b → Follows a b
ends_follow {p} d e f = let t = same_dir d p in record { dir = d; line = omega (arith, e.line, f.line); end = omega (arith, e.end, f.end) }

pub follows_end : {a b : Wire} → Follows a b → Ends low (tip high a) b
follows_end {a} f = let e = ends_at_lem high a in let t = same_dir f.dir (tip high a) in record { line = omega (arith, e.line, f.line); end = omega (arith, e.end, f.end) }

-- the direction of an end by another name
pub ended_as : {ws : List Wire} {d e : Bool} {p : Point} → Ended ws d p → d ≡ e → Ended ws e p
ended_as t x = record { wire = t.wire; among = t.among; dir = t.dir ∙ x; here = t.here }

-- rule 4 at a point
pub held_at : {ws : List Wire} {ps : List Point} → Wired ws ps → {p : Point} {a b : Wire} → a ∈ ws → b ∈ ws → a.vertical ≡ b.vertical → Ends high p a → Ends low p b → HeldApart ws ps a.vertical p
held_at {ws} {ps} l {a = a} {b} m n d e f = subst (HeldApart ws ps a.vertical) (sym (ends_is e)) (l.anchored a b m n (ends_follow d e f))

-- only which points are pads counts
pub wired_pads : {ws : List Wire} {ps qs : List Point} → ((p : Point) → p ∈ ps → p ∈ qs) → ((p : Point) → p ∈ qs → p ∈ ps) → Wired ws ps → Wired ws qs
wired_pads {ws} {ps} {qs} f g l = record {
  clean = record { fits = l.clean.fits; order = l.clean.order; clear = λ p m. l.clean.clear p (in_marks (⊎_elim (λ (h : HasEnd p ws). inl h) (λ (k : p ∈ qs). inr (g p k)) (marks_in ws m))) };
  anchored = λ a b m n e. ⊎_elim (λ (r : Ended ws (not a.vertical) (tip high a)). inl r) (λ (r : tip high a ∈ ps). inr (f (tip high a) r)) (l.anchored a b m n e);
}
