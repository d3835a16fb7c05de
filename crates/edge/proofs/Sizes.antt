-- A pointer size: the two tests of the code decide the definition, and what passes both fits.
use mathlib.Core.Path.{◌≡◌, refl, sym, ap, ◌∙◌, subst}
use Prim.Native.Nat.{◌≤◌}
use native.Mathlib.Omega.{arith}
use mathlib.Core.Bool.{true, false, cond}
use lib.Dec.{T}
use lib.IntN.{ℤ, pos, negsuc, nat_abs}
use lib.Signed.{lt_z, non_neg}
use mir.Syntax.{w16, w32}
use mir.Val.{SFits, Fits, to_z, of_z}
use mir.Facts.{to_z-of_z}
use borrow.Author.Tests.{ltb-true, ltb-false, le-leb, lt-leb}
use Rattle.edge.specs.Coordinates.{size_is, no_size, size_of}

negative : (z : ℤ) → lt_z z (pos 0) ≡ true → no_size ≡ size_of z
unfolding size_of
negative (pos n) e = absurd (let h = ltb-true n 0 e in let z : ⊥ = omega arith in z)
negative (negsuc n) e = refl

too_large : (z : ℤ) → lt_z (pos 1000) z ≡ true → no_size ≡ size_of z
unfolding size_of
too_large (pos n) e = sym (λ i. cond (lt-leb n 1000 (ltb-true 1000 n e) i) (size_is n) no_size)
too_large (negsuc n) e = refl

record Size (z : ℤ) : Type 0 where
  positive : T (non_neg z)
  small : nat_abs z ≤ 1000
  right : size_is (nat_abs z) ≡ size_of z

size : (z : ℤ) → lt_z z (pos 0) ≡ false → lt_z (pos 1000) z ≡ false → Size z
unfolding size_of
size (pos n) e g = let h = ltb-false 1000 n g in record { positive = tt; small = h; right = sym (λ i. cond (le-leb n 1000 h i) (size_is n) no_size) }
size (negsuc n) e g = absurd (subst T e tt)

-- ---- z as the machine reads it
module _ (z : ℤ) (f : SFits w32 z) where
  is : to_z w32 (of_z w32 z) ≡ z
  is = to_z-of_z {w = w32} {z = z} f

  pub refused_low : lt_z (to_z w32 (of_z w32 z)) (pos 0) ≡ true → no_size ≡ size_of z
  refused_low e = negative z (sym (λ i. lt_z (is i) (pos 0)) ∙ e)

  pub refused_high : lt_z (pos 1000) (to_z w32 (of_z w32 z)) ≡ true → no_size ≡ size_of z
  refused_high e = too_large z (sym (λ i. lt_z (pos 1000) (is i)) ∙ e)

  module _ (e : lt_z (to_z w32 (of_z w32 z)) (pos 0) ≡ false) (g : lt_z (pos 1000) (to_z w32 (of_z w32 z)) ≡ false) where
    inner : Size z
    inner = size z (sym (λ i. lt_z (is i) (pos 0)) ∙ e) (sym (λ i. lt_z (pos 1000) (is i)) ∙ g)

    pub size_fits : T (non_neg (to_z w32 (of_z w32 z))) × Fits w16 (nat_abs (to_z w32 (of_z w32 z)))
    size_fits = let s = inner in subst (λ (y : ℤ). T (non_neg y) × Fits w16 (nat_abs y)) (sym is) (s.positive, record { fits = let h = s.small in omega arith })

    pub sized_is : size_is (nat_abs (to_z w32 (of_z w32 z))) ≡ size_of z
    sized_is = ap (λ (y : ℤ). size_is (nat_abs y)) is ∙ inner.right
