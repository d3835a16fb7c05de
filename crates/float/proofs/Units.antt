-- Whole numbers in units: their sizes, and that a unit goes over sums, minus and the rows of an orientation.
use mathlib.Core.Path.{◌≡◌, refl, sym, ap, ◌∙◌, subst}
use Prim.Native.Nat.{ℕ, suc, ◌+◌, ◌-◌, ◌*◌, ◌^◌, ◌≤◌, ◌<◌}
use native.Mathlib.Nat.{le_refl}
use native.Mathlib.Omega.{arith}
use mathlib.Core.Bool.{true}
use lib.IntN.{ℤ, pos, negsuc, neg_ℤ, nat_abs, sub_ℕ, ◌+ℤ◌, ◌*ℤ◌}
use Rattle.edge.proofs.Whole.{sub_pos, sub_neg, by_order, same_diff, add_sub, neg_sub, pos_sub, neg_sub_suc, row_plus_left, row_minus_left, row_plus_right, row_minus_right, size_sub}
use Rattle.orientation.specs.Rows.{Row, plus_x, minus_x, plus_y, minus_y}
use Rattle.float.specs.Close.{unit}
use Rattle.float.proofs.Signed.{plus_sub, minus_sub, signed_size}

-- ---- sizes

size_add : (z w : ℤ) → nat_abs (z +ℤ w) ≤ nat_abs z + nat_abs w
size_add (pos a) (pos b) = le_refl (a + b)
size_add (pos a) (negsuc b) = size_sub a (suc b) (a + suc b) (omega arith) (omega arith)
size_add (negsuc a) (pos b) = size_sub b (suc a) (suc a + b) (omega arith) (omega arith)
size_add (negsuc a) (negsuc b) = omega arith

pub size_units : (p : ℤ) → nat_abs (p *ℤ pos unit) ≡ nat_abs p * unit
size_units (pos n) = refl
size_units (negsuc n) = signed_size true (suc n * unit)

pub sum_small : (Z p : ℤ) → nat_abs Z ≤ 256 * unit → nat_abs p ≤ 6000 → nat_abs (Z +ℤ p *ℤ pos unit) < 2 ^ 37
sum_small Z p h k = omega (arith, size_add Z (p *ℤ pos unit), size_units p)

-- ---- a whole number of units: unit times goes over sums and minus

times_unit : (m n : ℕ) → sub_ℕ m n *ℤ pos unit ≡ sub_ℕ (m * unit) (n * unit)
times_unit m n = by_order (sub_ℕ m n *ℤ pos unit ≡ sub_ℕ (m * unit) (n * unit)) m n
    (λ h. rw (sub_neg m n h) (minus_sub (suc (n - suc m) * unit) ∙ same_diff 0 (suc (n - suc m) * unit) (m * unit) (n * unit) (omega arith)))
    (λ h. rw (sub_pos m n h) (plus_sub ((m - n) * unit) ∙ same_diff ((m - n) * unit) 0 (m * unit) (n * unit) (omega arith)))

by_sub : (P : ℤ → Type 0) → ((m n : ℕ) → P (sub_ℕ m n)) → (z : ℤ) → P z
by_sub P f (pos n) = subst P (sym (pos_sub n)) (f n 0)
by_sub P f (negsuc n) = subst P (sym (neg_sub_suc n)) (f 0 (suc n))

abbrev pub units : ℤ → ℤ
units z = z *ℤ pos unit

units_neg : (z : ℤ) → neg_ℤ (units z) ≡ units (neg_ℤ z)
units_neg = by_sub (λ z. neg_ℤ (units z) ≡ units (neg_ℤ z)) (λ m n. ap neg_ℤ (times_unit m n) ∙ neg_sub (m * unit) (n * unit) ∙ sym (ap units (neg_sub m n) ∙ times_unit n m))

pub units_add : (z w : ℤ) → units z +ℤ units w ≡ units (z +ℤ w)
units_add z w = by_sub (λ z. units z +ℤ units w ≡ units (z +ℤ w)) (λ m n. by_sub (λ w. units (sub_ℕ m n) +ℤ units w ≡ units (sub_ℕ m n +ℤ w)) (at m n) w) z
  where
    at : (m n p q : ℕ) → units (sub_ℕ m n) +ℤ units (sub_ℕ p q) ≡ units (sub_ℕ m n +ℤ sub_ℕ p q)
    at m n p q =
        (λ i. times_unit m n i +ℤ times_unit p q i)
        ∙ add_sub (m * unit) (n * unit) (p * unit) (q * unit)
        ∙ same_diff (m * unit + p * unit) (n * unit + q * unit) ((m + p) * unit) ((n + q) * unit) (omega arith)
        ∙ sym (ap units (add_sub m n p q) ∙ times_unit (m + p) (n + q))

pub units_row : {a b : ℤ} (m n : ℤ) → Row a b → a *ℤ units m +ℤ b *ℤ units n ≡ units (a *ℤ m +ℤ b *ℤ n)
units_row m n plus_x = row_plus_left (units m) (units n) ∙ sym (ap units (row_plus_left m n))
units_row m n minus_x = row_minus_left (units m) (units n) ∙ units_neg m ∙ sym (ap units (row_minus_left m n))
units_row m n plus_y = row_plus_right (units m) (units n) ∙ sym (ap units (row_plus_right m n))
units_row m n minus_y = row_minus_right (units m) (units n) ∙ units_neg n ∙ sym (ap units (row_minus_right m n))
