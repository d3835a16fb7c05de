-- Each way out of `component`: the tests that led there decide the definition.
use mathlib.Core.Path.{◌≡◌, refl, sym, ap, ◌∙◌}
use Prim.Native.Nat.{ℕ}
use mathlib.Core.Bool.{Bool, true, false, ◌&&◌}
use mathlib.Core.List.{List, map}
use native.Mathlib.Omega.{arith}
use lib.Dec.{leb}
use lib.IntN.{ℤ}
use borrow.Author.Tests.{ne_eqb}
use Rattle.orientation.specs.Orientations.{eighth, four_answered, numbered_of}
use Rattle.label.specs.Labels.{held_label, held_answer}
use Rattle.label.specs.declared.Label.{Label}
use Rattle.edge.specs.Coordinates.{ranged}
use Rattle.symbol.specs.Symbols.{known_symbol}
use Rattle.symbol.specs.Replies.{point_reply, symbol_reply, component_reply}
use Rattle.symbol.proofs.Replies.{five}
use Rattle.draw.specs.Answers.{Answer, shape_is, no_shape, chosen, asked}
use Rattle.draw.specs.Symbols.{draws_of}
use Rattle.draw.specs.Transforms.{float_position, transform_of}
use Rattle.draw.specs.declared.Vector2.{Vector2}
use Rattle.draw.specs.declared.Draw.{Draw}
use Rattle.refusal.specs.Numbers.{number_of}
use Rattle.refusal.specs.declared.Refusal.{Refusal}
use Rattle.refusal.proofs.Numbers.{refuses}
use Rattle.orientation.specs.declared.RotMirror.{RotMirror}
use Rattle.orientation.proofs.Turns.{told_four, four_refused}
use Rattle.std.specs.Prelude.{Option, Some, None, Ok, Err}
use Rattle.cad.specs.Answers.{refused_shape}
use Rattle.cad.specs.Shapes.{component_shape}
use Rattle.cad.proofs.Asked.{asked_at, asked_past}
use Rattle.cad.proofs.Positions.{Tested}

module _ (kind : ℕ) (o : ℕ) where
  symbol_test : {k t : Bool} → k ≡ known_symbol kind o → k ≡ t → known_symbol kind o ≡ t
  symbol_test K t = sym K ∙ t

  pub unknown : (x y : ℤ) (label : Label) (i : ℕ) (a b : Bool) {k : Bool} → k ≡ known_symbol kind o → k ≡ false → refused_shape 4 ≡ component_shape kind o x y label i a b
  unfolding component_shape component_reply symbol_reply point_reply
  unknown x y label i a b K t = simp (symbol_test K t)

  -- no number of an orientation either
  pub unknown_number : (x y : ℤ) (label : Label) (i : ℕ) (a b : Bool) (r : Refusal) → four_answered (Err r) ≡ numbered_of o → refused_shape (number_of r) ≡ component_shape kind o x y label i a b
  unfolding component_shape component_reply symbol_reply point_reply
  unknown_number x y label i a b r e =
      let t = four_refused o r e in
      ap refused_shape t.1 ∙ simp (fails (leb kind 2) t.0)
    where
      fails : (k : Bool) {n : Bool} → n ≡ false → (k && n) ≡ false
      fails true e = e
      fails false e = refl

  module _ {x y : ℤ} (label : Label) (i : ℕ) (a b : Bool) {k p q : Bool} (K : k ≡ known_symbol kind o) (t : k ≡ true) (X : Tested 5800 x p) (Y : Tested 5800 y q) where
    abbrev Right : Answer → Type 0
    Right r = r ≡ component_shape kind o x y label i a b

    position_test : {u : Bool} → (p && q) ≡ u → (ranged 5800 x && ranged 5800 y) ≡ u
    position_test u = sym (λ j. X.is j && Y.is j) ∙ u

    pub off_sheet : (p && q) ≡ false → Right (refused_shape 1)
    unfolding component_shape component_reply symbol_reply point_reply
    off_sheet u = simp (symbol_test K t, position_test u)

    module _ (u : (p && q) ≡ true) where
      pub mislabelled : (r : Refusal) → held_answer (Err r) ≡ held_label label → Right (refused_shape (number_of r))
      unfolding component_shape component_reply symbol_reply point_reply
      mislabelled r H =
          let e : number_of r ≡ (held_label label).reply = ap (λ h. h.reply) H in
          let z = refuses r in
          let five_is : (held_label label).reply ≡ 5 = five label (ne_eqb (held_label label).reply 0 (λ f. omega (arith, z, e, f))) in
          ap refused_shape (e ∙ five_is) ∙ simp (symbol_test K t, position_test u, five_is)

      module _ {bytes : List ℕ} (H : held_answer (Ok bytes) ≡ held_label label) (r : Option Draw) (R : chosen r ≡ asked i (draws_of kind a b)) where
        good : Right (asked i (map (transform_of (eighth o) (float_position x y)) (draws_of kind a b)))
        unfolding component_shape component_reply symbol_reply point_reply
        good = simp (symbol_test K t, position_test u, sym (ap (λ h. h.reply) H))

        pub past : r ≡ None → Right no_shape
        past e = asked_past (transform_of (eighth o) (float_position x y)) (draws_of kind a b) i (sym (ap chosen e) ∙ R) ∙ good

        pub shown : {d e : Draw} {n : RotMirror} {v : Vector2} → r ≡ Some d → four_answered (Ok n) ≡ numbered_of o → v ≡ float_position x y → e ≡ transform_of n v d → Right (shape_is e)
        shown {d} e g f w =
            ap shape_is (w ∙ (λ j. transform_of (told_four o g j) (f j) d))
            ∙ asked_at (transform_of (eighth o) (float_position x y)) (draws_of kind a b) i d (sym (ap chosen e) ∙ R)
            ∙ good
