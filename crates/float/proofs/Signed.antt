-- Whole numbers as a sign and a size: as differences, in sums and in products.
use mathlib.Core.Path.{◌≡◌, refl, sym, ap, ◌∙◌}
use Prim.Native.Nat.{ℕ, zero, suc, ◌+◌, ◌-◌, ◌*◌, ◌≤◌}
use native.Mathlib.Nat.{mul_comm, zero-mul, mul-zero}
use native.Mathlib.Omega.{arith}
use mathlib.Core.Bool.{Bool, true, false, not}
use lib.IntN.{ℤ, pos, negsuc, neg_ℤ, nat_abs, sub_ℕ, ◌+ℤ◌, ◌*ℤ◌, *ℤ_comm, zero-*ℤ}
use lib.Signed.{non_neg}
use lib.Ieee.{unlike}
use Rattle.edge.proofs.Whole.{same_diff, add_sub, neg_sub, pos_sub}
use Rattle.float.specs.Close.{signed}

-- ---- as a difference

pub plus_sub : (n : ℕ) → signed false n ≡ sub_ℕ n 0
plus_sub n = pos_sub n

pub minus_sub : (n : ℕ) → signed true n ≡ sub_ℕ 0 n
minus_sub n = ap neg_ℤ (pos_sub n) ∙ neg_sub n 0

-- ---- the sign and the size of a whole number

abbrev pub negative : ℤ → Bool
negative z = not (non_neg z)

pub signed_is : (z : ℤ) → signed (negative z) (nat_abs z) ≡ z
signed_is (pos n) = refl
signed_is (negsuc n) = refl

pub signed_size : (s : Bool) (n : ℕ) → nat_abs (signed s n) ≡ n
signed_size false n = refl
signed_size true zero = refl
signed_size true (suc n) = refl

-- ---- sums

pub signed_add : (s : Bool) (m n : ℕ) → signed s (m + n) ≡ signed s m +ℤ signed s n
signed_add false m n = refl
signed_add true m n = minus_sub (m + n) ∙ sym (add_sub 0 m 0 n) ∙ sym (λ i. minus_sub m i +ℤ minus_sub n i)

-- a part taken off, at either sign
pub signed_less : (s : Bool) (m n : ℕ) → n ≤ m → signed s (m - n) ≡ signed s m +ℤ signed (not s) n
signed_less false m n h = plus_sub (m - n) ∙ same_diff (m - n) 0 (m + 0) (0 + n) (omega arith) ∙ sym (add_sub m 0 0 n) ∙ sym (λ i. plus_sub m i +ℤ minus_sub n i)
signed_less true m n h = minus_sub (m - n) ∙ same_diff 0 (m - n) (0 + n) (m + 0) (omega arith) ∙ sym (add_sub 0 m n 0) ∙ sym (λ i. minus_sub m i +ℤ plus_sub n i)

-- ---- products

pub signed_times : (s : Bool) (m n : ℕ) → signed s m *ℤ pos n ≡ signed s (m * n)
signed_times false m n = refl
signed_times true zero n = ap pos (zero-mul n) ∙ sym (ap (signed true) (zero-mul n))
signed_times true (suc m) n = refl

pub signed_mul : (s t : Bool) (m n : ℕ) → signed (unlike s t) (m * n) ≡ signed s m *ℤ signed t n
signed_mul false false m n = refl
signed_mul true false m n = sym (signed_times true m n)
signed_mul false true m n = ap (signed true) (mul_comm m n) ∙ sym (signed_times true n m) ∙ *ℤ_comm (signed true n) (pos m)
signed_mul true true zero n = ap pos (zero-mul n) ∙ sym (zero-*ℤ (signed true n))
signed_mul true true (suc m) zero = ap pos (mul-zero (suc m)) ∙ sym (ap (signed true) (mul-zero (suc m)))
signed_mul true true (suc m) (suc n) = refl
