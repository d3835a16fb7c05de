-- Whole numbers as differences of two naturals, which omega reads: sums, negatives and products by 1, 0 and -1. And the one law by which a position is added.
use mathlib.Core.Path.{◌≡◌, refl, sym, ap, ◌∙◌}
use Prim.Native.Nat.{ℕ, zero, suc, ◌+◌, ◌-◌, ◌*◌, ◌<◌, ◌≤◌}
use native.Mathlib.Omega.{arith}
use mathlib.Core.Bool.{Bool, true, false, cond}
use lib.Dec.{ltb}
use lib.IntN.{ℤ, pos, negsuc, neg_ℤ, nat_abs, sub_ℕ, ◌+ℤ◌, ◌*ℤ◌, zero-*ℤ, +ℤ_idr, +ℤ_idl}
use lib.Signed.{mag}
use borrow.Author.Tests.{lt-ltb, le-ltb, ltb-true, ltb-false}
use Rattle.edge.specs.Coordinates.{to_ℕ, coord_of, biased}

pub sub_pos : (m n : ℕ) → n ≤ m → sub_ℕ m n ≡ pos (m - n)
sub_pos m n h = λ i. cond (le-ltb m n h i) (negsuc (n - suc m)) (pos (m - n))

pub sub_neg : (m n : ℕ) → m < n → sub_ℕ m n ≡ negsuc (n - suc m)
sub_neg m n h = λ i. cond (lt-ltb m n h i) (negsuc (n - suc m)) (pos (m - n))

-- what holds of both kinds of difference
pub by_order : (P : Type 0) (m n : ℕ) → (m < n → P) → (n ≤ m → P) → P
by_order P m n f g = go (ltb m n) refl
  where
    go : (t : Bool) → ltb m n ≡ t → P
    go true e = f (ltb-true m n e)
    go false e = g (ltb-false m n e)

-- the same difference
pub same_diff : (a b c d : ℕ) → a + d ≡ c + b → sub_ℕ a b ≡ sub_ℕ c d
same_diff a b c d e =
    by_order (sub_ℕ a b ≡ sub_ℕ c d) a b
    (λ h. sub_neg a b h ∙ ap negsuc (less h) ∙ sym (sub_neg c d (omega arith)))
    (λ h. sub_pos a b h ∙ ap pos (more h) ∙ sym (sub_pos c d (omega arith)))
  where
    less : a < b → b - suc a ≡ d - suc c
    less h = omega arith

    more : b ≤ a → a - b ≡ c - d
    more h = omega arith

pub add_sub : (m n p q : ℕ) → sub_ℕ m n +ℤ sub_ℕ p q ≡ sub_ℕ (m + p) (n + q)
add_sub m n p q =
    by_order Goal m n
    (λ h. by_order Goal p q
    (λ k. (λ i. sub_neg m n h i +ℤ sub_neg p q k i) ∙ ap negsuc (nn h k) ∙ sym (sub_neg (m + p) (n + q) (omega arith)))
    (λ k. (λ i. sub_neg m n h i +ℤ sub_pos p q k i) ∙ same_diff (p - q) (suc (n - suc m)) (m + p) (n + q) (omega arith)))
    (λ h. by_order Goal p q
    (λ k. (λ i. sub_pos m n h i +ℤ sub_neg p q k i) ∙ same_diff (m - n) (suc (q - suc p)) (m + p) (n + q) (omega arith))
    (λ k. (λ i. sub_pos m n h i +ℤ sub_pos p q k i) ∙ ap pos (pp h k) ∙ sym (sub_pos (m + p) (n + q) (omega arith))))
  where
    Goal : Type 0
    Goal = sub_ℕ m n +ℤ sub_ℕ p q ≡ sub_ℕ (m + p) (n + q)

    nn : m < n → p < q → suc (n - suc m + (q - suc p)) ≡ n + q - suc (m + p)
    nn h k = omega arith

    pp : n ≤ m → q ≤ p → m - n + (p - q) ≡ m + p - (n + q)
    pp h k = omega arith

neg_pos : (n : ℕ) → neg_ℤ (pos n) ≡ sub_ℕ 0 n
neg_pos zero = refl
neg_pos (suc n) = let e : n ≡ suc n - 1 = omega arith in ap negsuc e ∙ sym (sub_neg 0 (suc n) (omega arith))

pub neg_sub : (m n : ℕ) → neg_ℤ (sub_ℕ m n) ≡ sub_ℕ n m
neg_sub m n =
    by_order (neg_ℤ (sub_ℕ m n) ≡ sub_ℕ n m) m n
    (λ h. ap neg_ℤ (sub_neg m n h) ∙ ap pos (less h) ∙ sym (sub_pos n m (omega arith)))
    (λ h. ap neg_ℤ (sub_pos m n h) ∙ neg_pos (m - n) ∙ same_diff 0 (m - n) n m (omega arith))
  where
    less : m < n → suc (n - suc m) ≡ n - m
    less h = omega arith

pub to_ℕ_sub : (m n : ℕ) → to_ℕ (sub_ℕ m n) ≡ m - n
to_ℕ_sub m n = by_order (to_ℕ (sub_ℕ m n) ≡ m - n) m n (λ h. ap to_ℕ (sub_neg m n h) ∙ none h) (λ h. ap to_ℕ (sub_pos m n h))
  where
    none : m < n → 0 ≡ m - n
    none h = omega arith

pub mag_sub : (m n : ℕ) → mag (sub_ℕ m n) ≤ m + n
mag_sub m n = by_order (mag (sub_ℕ m n) ≤ m + n) m n (λ h. rw (sub_neg m n h) (omega arith)) (λ h. rw (sub_pos m n h) (omega arith))

-- ---- products by 1, 0 and -1
pub one_times : (z : ℤ) → pos 1 *ℤ z ≡ z
one_times (pos n) = let e : 1 * n ≡ n = omega arith in ap pos e
one_times (negsuc n) = let e : 1 * suc n ≡ suc n = omega arith in ap (λ (k : ℕ). neg_ℤ (pos k)) e

pub minus_times : (z : ℤ) → negsuc 0 *ℤ z ≡ neg_ℤ z
minus_times (pos n) = let e : 1 * n ≡ n = omega arith in ap (λ (k : ℕ). neg_ℤ (pos k)) e
minus_times (negsuc n) = let e : 1 * suc n ≡ suc n = omega arith in ap pos e

-- a row of an orientation at (u, v)
pub row_plus_left : (u v : ℤ) → pos 1 *ℤ u +ℤ pos 0 *ℤ v ≡ u
row_plus_left u v = (λ i. one_times u i +ℤ zero-*ℤ v i) ∙ +ℤ_idr u

pub row_minus_left : (u v : ℤ) → negsuc 0 *ℤ u +ℤ pos 0 *ℤ v ≡ neg_ℤ u
row_minus_left u v = (λ i. minus_times u i +ℤ zero-*ℤ v i) ∙ +ℤ_idr (neg_ℤ u)

pub row_plus_right : (u v : ℤ) → pos 0 *ℤ u +ℤ pos 1 *ℤ v ≡ v
row_plus_right u v = (λ i. zero-*ℤ u i +ℤ one_times v i) ∙ +ℤ_idl v

pub row_minus_right : (u v : ℤ) → pos 0 *ℤ u +ℤ negsuc 0 *ℤ v ≡ neg_ℤ v
row_minus_right u v = (λ i. zero-*ℤ u i +ℤ minus_times v i) ∙ +ℤ_idl (neg_ℤ v)

-- ---- adding a position
pub biased_sub : (m n : ℕ) → biased (sub_ℕ m n) ≡ m + 6000 - n
unfolding biased
biased_sub m n = ap to_ℕ (add_sub m n 6000 0) ∙ to_ℕ_sub (m + 6000) (n + 0) ∙ tidy
  where
    tidy : m + 6000 - (n + 0) ≡ m + 6000 - n
    tidy = omega arith

pub added : (p s t : ℕ) (z : ℤ) → z ≡ sub_ℕ s t → biased (coord_of p +ℤ z) ≡ p + s - t
added p s t z e = (λ i. biased (coord_of p +ℤ e i)) ∙ ap biased (add_sub p 6000 s t) ∙ biased_sub (p + s) (6000 + t) ∙ tidy
  where
    tidy : p + s + 6000 - (6000 + t) ≡ p + s - t
    tidy = omega arith

-- ---- whole numbers as differences
pub pos_sub : (n : ℕ) → pos n ≡ sub_ℕ n 0
pos_sub n = let e : n ≡ n - 0 = omega arith in ap pos e ∙ sym (sub_pos n 0 (omega arith))

pub neg_sub_suc : (n : ℕ) → negsuc n ≡ sub_ℕ 0 (suc n)
neg_sub_suc n = neg_pos (suc n)

-- ---- sizes
pub size_neg : (z : ℤ) → nat_abs (neg_ℤ z) ≡ nat_abs z
size_neg (pos zero) = refl
size_neg (pos (suc n)) = refl
size_neg (negsuc n) = refl

pub size_sub : (m n k : ℕ) → m ≤ n + k → n ≤ m + k → nat_abs (sub_ℕ m n) ≤ k
size_sub m n k f g = by_order (nat_abs (sub_ℕ m n) ≤ k) m n (λ h. rw (sub_neg m n h) (omega arith)) (λ h. rw (sub_pos m n h) (omega arith))

pub size_added : (p : ℕ) (z : ℤ) → 200 ≤ p → p ≤ 11800 → nat_abs z ≤ 200 → nat_abs (coord_of p +ℤ z) ≤ 6000
size_added p (pos n) f g h = rw ((λ i. coord_of p +ℤ pos_sub n i) ∙ add_sub p 6000 n 0) (size_sub (p + n) (6000 + 0) 6000 (omega arith) (omega arith))
size_added p (negsuc n) f g h = rw ((λ i. coord_of p +ℤ neg_sub_suc n i) ∙ add_sub p 6000 0 (suc n)) (size_sub (p + 0) (6000 + suc n) 6000 (omega arith) (omega arith))
