-- Products by whole numbers, and sums with them: exact where the format holds the result, else the exact number, rounded once.
use mathlib.Core.Path.{◌≡◌, sym, ap, ◌∙◌}
use Prim.Native.Nat.{ℕ, suc, ◌*◌, ◌^◌, ◌≤◌, ◌<◌}
use native.Mathlib.Nat.{mul-one, mul-pos}
use native.Mathlib.Omega.{arith}
use mathlib.Core.Bool.{Bool, true, false}
use lib.IntN.{ℤ, pos, negsuc, nat_abs, ◌+ℤ◌, ◌*ℤ◌}
use lib.Dec.{T}
use lib.Pow.{pow_pos}
use lib.Ieee.{Float, nan, inf, fin, binary32, up, down, unlike, round, add, mul, of_int}
use lib.Ieee.Back.{round_whole}
use lib.Ieee.Fits.{down_pos}
use lib.Ieee.Exact.{HasValue}
use lib.Ieee.Scale.{round_same}
use Rattle.float.specs.Close.{unit, signed, IsWhole}
use Rattle.float.proofs.Signed.{negative, signed_is, signed_times, signed_mul}
use Rattle.float.proofs.Rounded.{rounded, rounded_signed}
use Rattle.float.proofs.Sums.{Has, Held, held, add_value, sum_is}

-- ---- a product is the exact product, rounded once

mul_value : (x y : Float) (s t : Bool) (n A : ℕ) → HasValue x s n 1 → HasValue y t A unit → mul binary32 x y ≡ round binary32 (unlike s t) (n * A) unit
unfolding mul
mul_value nan y s t n A p q = absurd p
mul_value (inf r) y s t n A p q = absurd p
mul_value (fin r m e) nan s t n A p q = absurd q
mul_value (fin r m e) (inf r') s t n A p q = absurd q
mul_value (fin r m e) (fin r' k d) s t n A p q =
    (λ i. round binary32 (unlike (p.0 i) (q.0 i)) (m * up e * (k * up d)) (down e * down d))
    ∙ round_same binary32 (unlike s t) (m * up e * (k * up d)) (down e * down d) (n * A) unit (mul-pos (down_pos e) (down_pos d)) (pow_pos 24)
    (cross (m * up e) (down e) (k * up d) (down d) p.1 q.1)
  where
    cross : (x e y d : ℕ) → x * 1 ≡ n * e → y * unit ≡ A * d → x * y * unit ≡ n * A * (e * d)
    cross x e y d p q = omega (arith, ap (λ (z : ℕ). x * z) q, ap (λ (z : ℕ). z * (A * d)) p)

whole_value : (z : ℤ) → nat_abs z ≤ 2 ^ 24 → HasValue (of_int binary32 z) (negative z) (nat_abs z) 1
unfolding of_int
whole_value (pos n) h = round_whole binary32 false n h
whole_value (negsuc n) h = round_whole binary32 true (suc n) h

-- the float of a whole number that the format holds is that number
pub whole_is : (z : ℤ) → nat_abs z ≤ 2 ^ 24 → IsWhole (of_int binary32 z) z
unfolding IsWhole
whole_is z h = go (of_int binary32 z) (whole_value z h)
  where
    go : (x : Float) → HasValue x (negative z) (nat_abs z) 1 → IsWhole x z
    go nan v = absurd v
    go (inf t) v = absurd v
    go (fin t m e) v =
        (λ i. signed (v.0 i) (sym (mul-one (m * up e)) i))
        ∙ ap (signed (negative z)) v.1
        ∙ sym (signed_times (negative z) (nat_abs z) (down e))
        ∙ (λ i. signed_is z i *ℤ pos (down e))

-- a product by a whole number that the format holds is exact
pub mul_has : {x : Float} {X : ℤ} (a : ℤ) → nat_abs a ≤ 2 ^ 24 → Has x X → Held (a *ℤ X) → Has (mul binary32 (of_int binary32 a) x) (a *ℤ X)
mul_has {x} a h k f =
    held (unlike (negative a) k.sign) (nat_abs a * k.size) (mul_value (of_int binary32 a) x (negative a) k.sign (nat_abs a) k.size (whole_value a h) k.value)
    (signed_mul (negative a) k.sign (nat_abs a) k.size ∙ (λ i. signed_is a i *ℤ k.is i)) f

-- a position, in units
whole_has : (p : ℤ) → nat_abs p ≤ 2 ^ 24 → Has (of_int binary32 p) (p *ℤ pos unit)
whole_has p h = record {
  sign = negative p;
  size = nat_abs p * unit;
  value = in_units (of_int binary32 p) (whole_value p h);
  is = sym (signed_times (negative p) (nat_abs p) unit) ∙ (λ i. signed_is p i *ℤ pos unit);
}
  where
    in_units : (x : Float) → HasValue x (negative p) (nat_abs p) 1 → HasValue x (negative p) (nat_abs p * unit) unit
    in_units nan v = v
    in_units (inf t) v = v
    in_units (fin t m e) v = (v.0, same (m * up e) (down e) v.1)
      where
        same : (x d : ℕ) → x * 1 ≡ nat_abs p * d → x * unit ≡ nat_abs p * unit * d
        same x d h = omega arith

-- adding a position, which is no -0, gives the exact sum, rounded once
pub add_position : {x : Float} {X : ℤ} (p : ℤ) → nat_abs p ≤ 2 ^ 24 → Has x X → add binary32 x (of_int binary32 p) ≡ rounded (X +ℤ p *ℤ pos unit)
unfolding whole_has
add_position {x} p h k =
    let P = whole_has p h in
    let S = sum_is k.sign P.sign k.size P.size in
    add_value x (of_int binary32 p) k.sign P.sign k.size P.size k.value P.value
    ∙ S.rounds
    ∙ sym (rounded_signed S.sign S.size (S.plain (plain p)))
    ∙ ap rounded (S.is ∙ (λ i. k.is i +ℤ P.is i))
  where
    plain : (p : ℤ) → T (negative p) → 0 < nat_abs p * unit
    plain (pos n) t = absurd t
    plain (negsuc n) t = omega arith
