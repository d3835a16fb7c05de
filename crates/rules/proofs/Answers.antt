-- The check's answer at each way out of the plain check, by the tests that led there.
use Prim.Native.Nat.{◌-◌}
use mathlib.Core.Bool.{Bool, true, false, ◌&&◌, not}
use mathlib.Core.List.{List}
use mathlib.Core.Path.{◌≡◌, sym, ap, subst, ◌∙◌}
use lib.Dec.{T}
use lib.ListN.{length, replicate}
use lib.Seq.{take-append_seam}
use Rattle.lists.specs.Lists.{pairs, links}
use Rattle.std.specs.List.{list_any, list_all}
use Rattle.lists.specs.Tables.{pad}
use Rattle.lists.proofs.Tests.{holds}
use Rattle.sheet.specs.declared.Wire.{Wire}
use Rattle.sheet.specs.declared.Component.{Component}
use Rattle.sheet.specs.declared.Joint.{Joint}
use Rattle.sheet.specs.Tables.{Joints}
use Rattle.sheet.specs.declared.Drawing.{Drawing}
use Rattle.sheet.specs.Points.{same, rises}
use Rattle.sheet.specs.Joints.{joint_point, joints_of}
use Rattle.sheet.specs.Parts.{pads_of, ahead}
use Rattle.sheet.specs.Drawings.{Sheet, zero_joint, joint_table, joint_rows, lists_of, marks_of}
use Rattle.sheet.specs.Wiring.{AllFit}
use Rattle.std.proofs.Common.{ℕ, Option, Some, None}
use Rattle.rules.specs.Touching.{as_touching}
use Rattle.limits.specs.Limits.{check1}
use Rattle.limits.proofs.Rooms.{counts_fit, components_fit}
use Rattle.row_order.specs.RowOrder.{check2, upward, check7}
use Rattle.row_order.proofs.Decides.{reads2}
use Rattle.rules.specs.Check.{free, check3, check4, touching_from, check6, broken, from_rule5, check_of}
use Rattle.rules.specs.Steps.{parted, same_row, Within}
use Rattle.rules.proofs.Counted.{rule_3_joints, rule_4_counts, rule_6_rows}

-- ---- what rule 1 tells the later rules

pub within : (d : Drawing) → check1 d ≡ true → Within d
within d e = let r = counts_fit d e in record { wires = r.wires; components = record { room = r.components; each = components_fit d e }; joints = r.joints }

-- ---- the joints counted afresh

pub table_rows : {js : Joints} (xs : List Joint) → js ≡ joint_table xs → joint_rows js ≡ xs
unfolding pad
table_rows xs e = ap joint_rows e ∙ take-append_seam xs (replicate (1408 - length xs) zero_joint)

module _ (d : Drawing) {js : List Joint} (e : js ≡ joints_of (marks_of (lists_of d))) where
  module _ {ws : List Wire} (u : ws ≡ (lists_of d).wires) where
    pub by_3 : list_all (λ j. free ws (joint_point j)) js ≡ check3 (lists_of d).wires (pads_of (lists_of d).parts)
    by_3 = (λ i. list_all (λ j. free (u i) (joint_point j)) (e i)) ∙ rule_3_joints (lists_of d).wires (pads_of (lists_of d).parts)

    pub by_4 : AllFit (lists_of d).wires → check2 (lists_of d).wires ≡ true → list_all (parted ws js) ws ≡ check4 (lists_of d).wires (pads_of (lists_of d).parts)
    by_4 fits two = (λ i. list_all (parted (u i) (e i)) (u i)) ∙ rule_4_counts (pads_of (lists_of d).parts) fits (holds (reads2 (lists_of d).wires) (subst T (sym two) tt))

  pub by_6 : {rows : List Joint} → rows ≡ joint_rows d.joints
      → (pairs (λ i j. not (same (joint_point i) (joint_point j))) rows && (list_all (λ i. list_any (same_row i) rows) js && list_all (λ j. list_any (same_row j) js) rows)) ≡ check6 (joint_rows d.joints) (marks_of (lists_of d))
  by_6 u = (λ k. pairs (λ i j. not (same (joint_point i) (joint_point j))) (u k) && (list_all (λ i. list_any (same_row i) (u k)) (e k) && list_all (λ j. list_any (same_row j) (e k)) (u k))) ∙ rule_6_rows (joint_rows d.joints) (marks_of (lists_of d))

-- ---- the ways out

module _ (d : Drawing) where
  abbrev s : Sheet
  s = lists_of d

  pub at_1 : check1 d ≡ false → broken 1 ≡ check_of d
  unfolding check_of
  at_1 e = rw e

  pub at_2 : check1 d ≡ true → check2 s.wires ≡ false → broken 2 ≡ check_of d
  unfolding check_of
  at_2 e f = rw (e, f)

  pub at_3 : check1 d ≡ true → check2 s.wires ≡ true → check3 s.wires (pads_of s.parts) ≡ false → broken 3 ≡ check_of d
  unfolding check_of
  at_3 e f g = rw (e, f, g)

  pub at_4 : check1 d ≡ true → check2 s.wires ≡ true → check3 s.wires (pads_of s.parts) ≡ true → check4 s.wires (pads_of s.parts) ≡ false → broken 4 ≡ check_of d
  unfolding check_of
  at_4 e f g h = rw (e, f, g, h)

  pub past_4 : check1 d ≡ true → check2 s.wires ≡ true → check3 s.wires (pads_of s.parts) ≡ true → check4 s.wires (pads_of s.parts) ≡ true → from_rule5 d ≡ check_of d
  unfolding check_of
  past_4 e f g h = rw (e, f, g, h)

  module _ {cs : List Component} (v : cs ≡ s.parts) {r : Option (ℕ × ℕ)} (t : as_touching r ≡ touching_from 0 cs) where
    pub at_5 : (p : ℕ × ℕ) → r ≡ Some p → record { rule = 5; first = p.0; second = p.1 } ≡ from_rule5 d
    unfolding from_rule5
    at_5 p e = let m = ap as_touching (sym e) ∙ t ∙ ap (touching_from 0) v in rw (← m)

    module _ (e : r ≡ None) where
      pub at_6 : check6 (joint_rows d.joints) (marks_of s) ≡ false → broken 6 ≡ from_rule5 d
      unfolding from_rule5
      at_6 f = let m = ap as_touching (sym e) ∙ t ∙ ap (touching_from 0) v in rw (← m, f)

      pub at_7 : check6 (joint_rows d.joints) (marks_of s) ≡ true → check7 s (joint_rows d.joints) ≡ false → broken 7 ≡ from_rule5 d
      unfolding from_rule5
      at_7 f g = let m = ap as_touching (sym e) ∙ t ∙ ap (touching_from 0) v in rw (← m, f, g)

      pub at_0 : check6 (joint_rows d.joints) (marks_of s) ≡ true → check7 s (joint_rows d.joints) ≡ true → broken 0 ≡ from_rule5 d
      unfolding from_rule5
      at_0 f g = let m = ap as_touching (sym e) ∙ t ∙ ap (touching_from 0) v in rw (← m, f, g)

  pub rises_7 : {ws : List Wire} {cs : List Component} {js : List Joint} {a b c : Bool} → ws ≡ s.wires → cs ≡ s.parts → js ≡ joint_rows d.joints
      → a ≡ links upward ws → b ≡ links ahead cs → c ≡ links (λ i j. rises (joint_point i) (joint_point j)) js → (a && (b && c)) ≡ check7 s (joint_rows d.joints)
  unfolding check7
  rises_7 u v w p q r = (λ i. p i && (q i && r i)) ∙ (λ k. links upward (u k) && (links ahead (v k) && links (λ i j. rises (joint_point i) (joint_point j)) (w k)))
