-- A whole number E of units, rounded: at most 1/4,096 from E, the whole number where E is one, and never -0.
use mathlib.Core.Path.{◌≡◌, refl, sym, ◌∙◌, subst}
use Prim.Native.Nat.{ℕ, zero, suc, ◌+◌, ◌*◌, ◌^◌, ◌≤◌, ◌<◌}
use native.Mathlib.Nat.{mul-one, mul-pos, zero-lt-suc}
use native.Mathlib.Omega.{arith}
use mathlib.Core.Bool.{Bool, true, false, not, cond, ◌&&◌}
use lib.IntN.{ℤ, pos, negsuc, nat_abs, sub_ℕ, ◌+ℤ◌, ◌-ℤ◌, ◌*ℤ◌}
use lib.Dec.{T, eqb, le→leb}
use lib.Pow.{pow_pos}
use lib.Ieee.{Float, nan, inf, fin, binary32, up, down, round, of_int}
use lib.Ieee.Scale.{round_same}
use borrow.Author.Tests.{ne_eqb}
use Rattle.edge.proofs.Whole.{sub_pos, sub_neg, by_order, same_diff, add_sub, neg_sub}
use Rattle.float.specs.Close.{unit, signed, near, negative_zero}
use Rattle.float.proofs.Signed.{plus_sub, minus_sub, signed_times, negative}
use Rattle.float.proofs.Nearness.{Rounded, round_near}

-- ---- a difference of two of one sign

gap : (s : Bool) (A B C : ℕ) → A * 4096 ≤ B * 4096 + C → B * 4096 ≤ A * 4096 + C → nat_abs (signed s A -ℤ signed s B) * 4096 ≤ C
gap s A B C a b = subst (λ (z : ℤ). nat_abs z * 4096 ≤ C) (sym (is s)) (size (cond s B A) (cond s A B) (sides s))
  where
    is : (s : Bool) → signed s A -ℤ signed s B ≡ sub_ℕ (cond s B A) (cond s A B)
    is false = (λ i. plus_sub A i +ℤ minus_sub B i) ∙ add_sub A 0 0 B ∙ same_diff (A + 0) (0 + B) A B (omega arith)
    is true = (λ i. minus_sub A i -ℤ minus_sub B i) ∙ (λ i. sub_ℕ 0 A +ℤ neg_sub 0 B i) ∙ add_sub 0 A B 0 ∙ same_diff (0 + B) (A + 0) B A (omega arith)

    sides : (s : Bool) → (cond s B A * 4096 ≤ cond s A B * 4096 + C) × (cond s A B * 4096 ≤ cond s B A * 4096 + C)
    sides false = (a, b)
    sides true = (b, a)

    size : (m n : ℕ) → (m * 4096 ≤ n * 4096 + C) × (n * 4096 ≤ m * 4096 + C) → nat_abs (sub_ℕ m n) * 4096 ≤ C
    size m n (f, g) = by_order (nat_abs (sub_ℕ m n) * 4096 ≤ C) m n (λ h. rw (sub_neg m n h) (omega arith)) (λ h. rw (sub_pos m n h) (omega arith))

-- ---- what `Rounded` tells

some : (m : ℕ) → 0 < m → T (not (eqb m 0))
some m h = rw (ne_eqb m 0 (λ e. omega arith)) tt

told : (x : Float) (s : Bool) (N : ℕ) → (T s → 0 < N) → Rounded x s N → T (near x (signed s N)) × T (not (negative_zero x))
unfolding near negative_zero
told nan s N h r = absurd r
told (inf t) s N h r = absurd r
told (fin t m e) s N h (p, (w, z)) = (
  le→leb _ _ (subst (λ (b : Bool). nat_abs (signed b (m * up e * unit) -ℤ signed s N *ℤ pos (down e)) * 4096 ≤ unit * down e) (sym p)
      (subst (λ (k : ℤ). nat_abs (signed s (m * up e * unit) -ℤ k) * 4096 ≤ unit * down e) (sym (signed_times s N (down e)))
      (gap s (m * up e * unit) (N * down e) (unit * down e) w.0 w.1))),
  plain t (subst (λ (b : Bool). T b → 0 < N) (sym p) h),
)
  where
    plain : (t : Bool) → (T t → 0 < N) → T (not (t && eqb m 0))
    plain false h = tt
    plain true h = some m (z (h tt))

-- ---- the rounded number

abbrev pub rounded : ℤ → Float
rounded E = round binary32 (negative E) (nat_abs E) unit

pub rounded_signed : (s : Bool) (N : ℕ) → (T s → 0 < N) → rounded (signed s N) ≡ round binary32 s N unit
rounded_signed false N h = refl
rounded_signed true zero h = absurd (let k : 0 < 0 = h tt in omega arith)
rounded_signed true (suc n) h = refl

pub rounded_near : (E : ℤ) → nat_abs E < 2 ^ 37 → T (near (rounded E) E) × T (not (negative_zero (rounded E)))
rounded_near (pos n) h = told (rounded (pos n)) false n (λ t. absurd t) (round_near false n h)
rounded_near (negsuc n) h = told (rounded (negsuc n)) true (suc n) (λ t. zero-lt-suc n) (round_near true (suc n) h)

pub rounded_whole : (z : ℤ) → rounded (z *ℤ pos unit) ≡ of_int binary32 z
unfolding of_int
rounded_whole (pos n) = round_same binary32 false (n * unit) unit n 1 (pow_pos 24) (zero-lt-suc 0) (mul-one (n * unit))
rounded_whole (negsuc n) =
    rounded_signed true (suc n * unit) (λ t. mul-pos (zero-lt-suc n) (pow_pos 24))
    ∙ round_same binary32 true (suc n * unit) unit (suc n) 1 (pow_pos 24) (zero-lt-suc 0) (mul-one (suc n * unit))
