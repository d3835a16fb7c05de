-- A number with a sign, as the machine reads it and tests it against 0: the text of it.
use mathlib.Core.Path.{◌≡◌, refl, sym, ap, subst, ◌∙◌}
use mathlib.Core.Bool.{true, false}
use mathlib.Core.List.{◌∷◌}
use Prim.Native.Nat.{ℕ}
use native.Mathlib.Omega.{arith}
use lib.Dec.{T}
use lib.IntN.{ℤ, pos, negsuc, nat_abs}
use lib.Signed.{lt_z}
use mir.Syntax.{w32}
use mir.Val.{SFits, to_z, of_z}
use mir.Facts.{to_z-of_z}
use borrow.Author.Tests.{ltb-true}
use Rattle.text.specs.Text.{decimal_of, signed_of}

signed_minus : (z : ℤ) → lt_z z (pos 0) ≡ true → signed_of z ≡ 45 ∷ decimal_of (nat_abs z)
unfolding signed_of
signed_minus (pos n) e = absurd (omega (arith, ltb-true n 0 e))
signed_minus (negsuc n) e = refl

signed_plain : (z : ℤ) → lt_z z (pos 0) ≡ false → signed_of z ≡ decimal_of (nat_abs z)
unfolding signed_of
signed_plain (pos n) e = refl
signed_plain (negsuc n) e = absurd (subst T e tt)

-- z as the machine reads it
module _ (z : ℤ) (f : SFits w32 z) where
  abbrev machine : ℤ
  machine = to_z w32 (of_z w32 z)

  is : machine ≡ z
  is = to_z-of_z {w = w32} {z = z} f

  pub minus_text : lt_z machine (pos 0) ≡ true → (m : ℕ) → m ≡ nat_abs machine → signed_of z ≡ 45 ∷ decimal_of m
  minus_text e m told = signed_minus z (sym (λ i. lt_z (is i) (pos 0)) ∙ e) ∙ ap (λ n. 45 ∷ decimal_of n) (sym (told ∙ ap nat_abs is))

  pub plain_text : lt_z machine (pos 0) ≡ false → (m : ℕ) → m ≡ nat_abs machine → signed_of z ≡ decimal_of m
  plain_text e m told = signed_plain z (sym (λ i. lt_z (is i) (pos 0)) ∙ e) ∙ ap decimal_of (sym (told ∙ ap nat_abs is))
