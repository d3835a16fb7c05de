-- The drawing check tells the same of a drawing and of its translation.
use Prim.Native.Nat.{ℕ, suc}
use mathlib.Core.Bool.{Bool, true, false, ◌&&◌, cond}
use mathlib.Core.List.{List, [], ◌∷◌, map}
use mathlib.Core.Path.{◌≡◌, refl, ap, ◌∙◌}
use lib.Dec.{leb, eqb}
use lib.ListN.{drop}
use Rattle.lists.specs.Lists.{links}
use Rattle.std.specs.List.{list_all}
use Rattle.lists.proofs.Mapped.{all_mapped, links_mapped, rear}
use Rattle.edge.specs.Coordinates.{is_position}
use Rattle.orientation.specs.Orientations.{same_of}
use Rattle.orientation.proofs.Turns.{known_number}
use Rattle.label.specs.Labels.{label_ok, all_zero}
use Rattle.sheet.specs.declared.Component.{Component}
use Rattle.sheet.specs.declared.Drawing.{Drawing}
use Rattle.sheet.specs.Points.{rises}
use Rattle.sheet.specs.Geometry.{marks}
use Rattle.sheet.specs.Joints.{joint_point}
use Rattle.sheet.specs.Parts.{pads_of, ahead}
use Rattle.sheet.specs.Drawings.{lists_of, joint_rows}
use Rattle.limits.specs.Limits.{blank_wire, blank_joint, blank_component, wire_fits, component_fits}
use Rattle.limits.specs.Limits as Limits
use Rattle.row_order.specs.RowOrder.{check2, check7, upward}
use Rattle.rules.specs.Touching.{Touching}
use Rattle.rules.specs.Check.{check3, check4, check6, broken, unless, unless_touching, touching_one, touching_from, from_rule5, check_of}
use Rattle.four.specs.Plans.{Plan}
use Rattle.four.specs.Plans as Plans
use Rattle.four.specs.Check as Four
use Rattle.four.specs.Request1.{four, behind, four_drawing}
use Rattle.four.proofs.Sheets.{same_touch, same_pads_of}
use Rattle.four.proofs.Drawings.{lists_same}

-- ---- rule 1

same_fits : (c : Component) → Four.part_fits (four c) ≡ component_fits c
unfolding Four.part_fits component_fits
same_fits c = λ i. (leb c.kind 2 && known_number c.orientation i) && (is_position c.x && (is_position c.y && label_ok c.label))

same_blank : (c : Component) → Four.blank_part (behind c) ≡ blank_component c
unfolding Four.blank_part blank_component same_of
same_blank c = λ i. eqb c.kind 0 && (and_true (eqb c.orientation 0) i && (eqb c.x 0 && (eqb c.y 0 && all_zero c.label)))
  where
    and_true : (b : Bool) → b && true ≡ b
    and_true true = refl
    and_true false = refl

module _ (d : Drawing) where
  same_check1 : Four.check1 (four_drawing d) ≡ Limits.check1 d
  unfolding Four.check1 Limits.check1 Four.rooms Limits.rooms Four.blanks Limits.blanks Four.limits Limits.limits
  same_check1 =
      let n = d.components.count in
      let blank = ap (list_all Four.blank_part) (rear four behind n d.components.rows) ∙ all_mapped behind Four.blank_part blank_component same_blank (drop n d.components.rows) in
      let fits = ap (λ (p : Plan). list_all Four.part_fits p.parts) (lists_same d) ∙ all_mapped four Four.part_fits component_fits same_fits (lists_of d).parts in
      λ i. (leb d.wires.count 512 && (leb n 128 && leb d.joints.count 1408))
      && ((list_all blank_wire (drop d.wires.count d.wires.rows) && (blank i && list_all blank_joint (drop d.joints.count d.joints.rows)))
      && (list_all wire_fits (lists_of d).wires && fits i))

-- ---- rule 5

same_one : (i : ℕ) (b : Component) (j : ℕ) (cs : List Component) (o : Touching) → Four.touching_one i (four b) j (map four cs) o ≡ touching_one i b j cs o
unfolding Four.touching_one touching_one
same_one i b j [] o = refl
same_one i b j (c ∷ cs) o = λ k. cond (same_touch b c k) (record { found = true; first = i; second = j }) (same_one i b (suc j) cs o k)

same_touching : (i : ℕ) (cs : List Component) → Four.touching_from i (map four cs) ≡ touching_from i cs
unfolding Four.touching_from touching_from
same_touching i [] = refl
same_touching i (c ∷ cs) = same_one i c (suc i) cs (Four.touching_from (suc i) (map four cs)) ∙ ap (touching_one i c (suc i) cs) (same_touching (suc i) cs)

-- ---- all of them
pub same_check : (d : Drawing) → Four.check_of (four_drawing d) ≡ check_of d
unfolding Four.check_of check_of from_rule5 Four.check7 check7
same_check d =
    let s = lists_of d in
    let js = joint_rows d.joints in
    let parts : (Plans.lists_of (four_drawing d)).parts ≡ map four s.parts = ap (λ (p : Plan). p.parts) (lists_same d) in
    let pads : Plans.pads_of (Plans.lists_of (four_drawing d)).parts ≡ pads_of s.parts = ap Plans.pads_of parts ∙ same_pads_of s.parts in
    let touching = ap (Four.touching_from 0) parts ∙ same_touching 0 s.parts in
    let rising = ap (links Plans.ahead) parts ∙ links_mapped four Plans.ahead ahead (λ b c. refl) s.parts in
    λ i. unless (same_check1 d i) 1
    (unless (check2 s.wires) 2
    (unless (check3 s.wires (pads i)) 3
    (unless (check4 s.wires (pads i)) 4
    (unless_touching (touching i)
    (unless (check6 js (marks s.wires (pads i))) 6
    (unless (links upward s.wires && (rising i && links (λ i j. rises (joint_point i) (joint_point j)) js)) 7
    (broken 0)))))))
