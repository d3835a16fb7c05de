-- Ways out of `component`, `wire` and `junction`, from what the calls before them ensure of the coordinates as they are handed over.
use mathlib.Core.Path.{◌≡◌}
use Prim.Native.Nat.{ℕ, ◌≤◌, ◌<◌}
use mathlib.Core.Bool.{Bool, true, false, ◌&&◌}
use lib.IntN.{ℤ}
use lib.Signed.{lt_z}
use lib.Ieee.{binary32, of_bits, of_int}
use mir.Syntax.{w32}
use mir.Val.{SFits, to_z, of_z}
use Rattle.label.specs.Labels.{held_label, held_answer}
use Rattle.label.specs.declared.Label.{Label}
use Rattle.refusal.specs.Numbers.{number_of}
use Rattle.refusal.specs.declared.Refusal.{Refusal}
use Rattle.std.specs.Prelude.{Err}
use Rattle.edge.specs.Coordinates.{ranged}
use Rattle.symbol.specs.Symbols.{known_symbol}
use Rattle.draw.specs.Symbols.{whole}
use Rattle.draw.specs.Transforms.{float_position}
use Rattle.draw.specs.Answers.{shape_is}
use Rattle.draw.specs.declared.Vector2.{Vector2}
use Rattle.draw.specs.declared.Draw.TheVariants.{Line, Circle}
use Rattle.cad.specs.Answers.{refused_shape}
use Rattle.cad.specs.Shapes.{component_shape, wire_shape, junction_shape}
use Rattle.cad.proofs.Positions.{Small, tested, less_test, converted}
use Rattle.cad.proofs.Components.{mislabelled}
use Rattle.cad.proofs.Marks.{small_three, downward, dot, loose}

-- a coordinate, and a position, as they are handed over
abbrev over : ℤ → ℤ
over z = to_z w32 (of_z w32 z)

abbrev position : ℤ → ℤ → Vector2
position z w = float_position (over z) (over w)

pub label_refused : (kind o : ℕ) (x y : ℤ) (label : Label) (i : ℕ) (a b : Bool) (r : Refusal) {k p q : Bool} → k ≡ known_symbol kind o → k ≡ true
    → SFits w32 x → SFits w32 y → p ≡ ranged 5800 (over x) → q ≡ ranged 5800 (over y) → (p && q) ≡ true
    → held_answer (Err r) ≡ held_label label → refused_shape (number_of r) ≡ component_shape kind o x y label i a b
label_refused kind o x y label i a b r K t f g e d u H = mislabelled kind o label i a b K t (tested 5800 f e) (tested 5800 g d) u r H

pub end_small : {line start end : ℤ} {l s e : Bool} → SFits w32 line → SFits w32 start → SFits w32 end
    → l ≡ ranged 6000 (over line) → s ≡ ranged 6000 (over start) → e ≡ ranged 6000 (over end) → (l && (s && e)) ≡ true → Small line × Small end
end_small f g h a b c t = let k = small_three true (tested 6000 f a) (tested 6000 g b) (tested 6000 h c) t in (k.0, k.1.1)

pub drawn_down : (vertical : Bool) (line start end : ℤ) (p q : Vector2) {l s e : Bool} → SFits w32 line → SFits w32 start → SFits w32 end
    → l ≡ ranged 6000 (over line) → s ≡ ranged 6000 (over start) → e ≡ ranged 6000 (over end) → (l && (s && e)) ≡ true
    → lt_z (over end) (over start) ≡ false → vertical ≡ true → p ≡ position line start → q ≡ position line end
    → shape_is (Line p q (of_bits binary32 1086324736)) ≡ wire_shape vertical line start end
unfolding whole of_bits of_int
drawn_down vertical line start end p q f g h a b c t u v x y =
    let L = tested 6000 f a in
    let S = tested 6000 g b in
    let E = tested 6000 h c in
    downward vertical L S E t (less_test E S u) v (converted L S x) (converted L E y)

module _ (x y : ℤ) (count : ℕ) (p : Vector2) {a b : Bool} (f : SFits w32 x) (g : SFits w32 y) (e : a ≡ ranged 6000 (over x)) (d : b ≡ ranged 6000 (over y)) (t : (a && b) ≡ true) (v : p ≡ position x y) where
  pub dotted : 3 ≤ count → shape_is (Line p p (of_bits binary32 1109393408)) ≡ junction_shape x y count
  unfolding whole of_bits of_int
  dotted h = let X = tested 6000 f e in let Y = tested 6000 g d in dot count X Y t (converted X Y v) h

  pub ringed : count < 3 → count ≡ 1 → shape_is (Circle p (of_bits binary32 1092616192) (of_bits binary32 1065353216)) ≡ junction_shape x y count
  unfolding whole of_bits of_int
  ringed h k = let X = tested 6000 f e in let Y = tested 6000 g d in loose count X Y t (converted X Y v) h k
