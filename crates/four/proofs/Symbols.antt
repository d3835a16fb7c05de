-- Turns, boxes, pads and shapes asked of a number and of its four numbers.
use Prim.Native.Nat.{ℕ}
use mathlib.Core.Bool.{Bool, true, false, ◌&&◌, cond}
use mathlib.Core.List.{List, [], map}
use mathlib.Core.Path.{◌≡◌, refl, sym, ◌∙◌}
use lib.Dec.{leb, ltb, eqb}
use lib.IntN.{ℤ}
use Rattle.edge.specs.Coordinates.{ranged}
use Rattle.orientation.specs.declared.RotMirror.{RotMirror}
use Rattle.orientation.specs.Orientations.{eighth, four_are, no_four, turn_is, no_turn, turn_by, turned_by, rights, lefts, mirrors, right_of, left_of, mirror_of}
use Rattle.orientation.proofs.Turns.{Follows, eighth_right, eighth_left, eighth_mirror, known_number}
use Rattle.label.specs.declared.Label.{Label}
use Rattle.label.specs.Labels.{held_label}
use Rattle.symbol.specs.Symbols.{pads_at, low_at, high_at}
use Rattle.symbol.proofs.Replies.{symbol_nested, component_nested}
use Rattle.component.specs.Answers.{position_of, answer, spanned, no_box, component_pads_of, component_box_of}
use Rattle.draw.specs.Answers.{asked}
use Rattle.draw.specs.Symbols.{draws_of}
use Rattle.draw.specs.Transforms.{float_position, transform_of}
use Rattle.cad.specs.Answers.{refused_shape}
use Rattle.cad.specs.Shapes.{component_shape}
use Rattle.four.specs.Calls as Four
use Rattle.four.specs.Request1.{four_turned, SameSymbols}

-- a turn that follows the table t
turns : (f : RotMirror → RotMirror) (t : List ℕ) → Follows f t → (n : ℕ) → Four.turned f (eighth n) ≡ four_turned (turned_by t n)
unfolding Four.turned turned_by
turns f t e n = (λ i. cond (known_number n i) (four_are (sym (e n) i)) no_four) ∙ case (ltb n 8)
  where
    case : (b : Bool) → cond b (four_are (eighth (turn_by t n))) no_four ≡ four_turned (cond b (turn_is (turn_by t n)) no_turn)
    case true = refl
    case false = refl

module _ (kind n : ℕ) (x y : ℤ) where
  pads : Four.component_pads kind (eighth n) x y ≡ component_pads_of kind n x y
  unfolding Four.component_pads component_pads_of
  pads =
      let a = answer 0 (map (position_of (eighth n) x y) (pads_at kind)) in
      (λ i. cond (leb kind 2 && known_number n i) (cond (ranged 5800 x && ranged 5800 y) a (answer 1 [])) (answer 4 [])) ∙ sym (symbol_nested (λ r. answer r []) a kind n x y)

  box : Four.component_box kind (eighth n) x y ≡ component_box_of kind n x y
  unfolding Four.component_box component_box_of
  box =
      let a = spanned (position_of (eighth n) x y (low_at kind)) (position_of (eighth n) x y (high_at kind)) in
      (λ i. cond (leb kind 2 && known_number n i) (cond (ranged 5800 x && ranged 5800 y) a (no_box 1)) (no_box 4)) ∙ sym (symbol_nested no_box a kind n x y)

  shape : (b : Label) (i : ℕ) (p q : Bool) → Four.component_shape kind (eighth n) x y b i p q ≡ component_shape kind n x y b i p q
  unfolding Four.component_shape component_shape
  shape b i p q =
      let a = asked i (map (transform_of (eighth n) (float_position x y)) (draws_of kind p q)) in
      (λ j. cond (leb kind 2 && known_number n j) (cond (ranged 5800 x && ranged 5800 y) (cond (eqb (held_label b).reply 0) a (refused_shape 5)) (refused_shape 1)) (refused_shape 4))
      ∙ sym (component_nested refused_shape a kind n x y b)

pub same_symbols : SameSymbols
same_symbols = record {
  right = turns right_of rights eighth_right;
  left = turns left_of lefts eighth_left;
  mirror = turns mirror_of mirrors eighth_mirror;
  pads = pads;
  box = box;
  shape = shape;
}
