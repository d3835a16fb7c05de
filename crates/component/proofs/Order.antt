-- The order of two numbers of rows is that of their coordinates, so the lesser and the greater are too.
use mathlib.Core.Path.{◌≡◌, refl, sym, ap, ◌∙◌}
use Prim.Native.Nat.{ℕ, suc, ◌-◌, ◌≤◌, min, max}
use native.Mathlib.Omega.{arith}
use mathlib.Core.Bool.{Bool, true, false, cond}
use mathlib.Core.Logic.{◌↔◌}
use lib.Dec.{leb}
use lib.IntN.{ℤ, sub_ℕ}
use lib.Signed.{le_z}
use borrow.Author.Tests.{leb-true, leb-false, le-leb, lt-leb}
use Rattle.lists.proofs.Tests.{reads_as, leb_reads, same_test}
use Rattle.edge.specs.Coordinates.{coord_of}
use Rattle.edge.proofs.Whole.{by_order, sub_pos, sub_neg}
use Rattle.component.specs.Answers.{min_z, max_z}

same_leb : (i j m n : ℕ) → (i ≤ j) ↔ (m ≤ n) → leb i j ≡ leb m n
same_leb i j m n e = same_test (reads_as e (leb_reads i j)) (leb_reads m n)

same_order : (m n k : ℕ) → le_z (sub_ℕ m k) (sub_ℕ n k) ≡ leb m n
same_order m n k =
    by_order Goal m k
    (λ f. by_order Goal n k
    (λ g. (λ i. le_z (sub_neg m k f i) (sub_neg n k g i)) ∙ same_leb (k - suc n) (k - suc m) m n (λ h. omega arith, λ h. omega arith))
    (λ g. (λ i. le_z (sub_neg m k f i) (sub_pos n k g i)) ∙ sym (le-leb m n (omega arith))))
    (λ f. by_order Goal n k
    (λ g. (λ i. le_z (sub_pos m k f i) (sub_neg n k g i)) ∙ sym (lt-leb m n (omega arith)))
    (λ g. (λ i. le_z (sub_pos m k f i) (sub_pos n k g i)) ∙ same_leb (m - k) (n - k) m n (λ h. omega arith, λ h. omega arith)))
  where
    Goal : Type 0
    Goal = le_z (sub_ℕ m k) (sub_ℕ n k) ≡ leb m n

-- r is picked from m and n by their order, and so is its coordinate
picked : (m n r : ℕ) (s t : ℤ) → (leb m n ≡ true → coord_of r ≡ s) → (leb m n ≡ false → coord_of r ≡ t) → coord_of r ≡ cond (le_z (coord_of m) (coord_of n)) s t
picked m n r s t f g = go (leb m n) f g (same_order m n 6000)
  where
    go : (b : Bool) → (b ≡ true → coord_of r ≡ s) → (b ≡ false → coord_of r ≡ t) → le_z (coord_of m) (coord_of n) ≡ b → coord_of r ≡ cond (le_z (coord_of m) (coord_of n)) s t
    go true f g e = f refl ∙ sym (λ i. cond (e i) s t)
    go false f g e = g refl ∙ sym (λ i. cond (e i) s t)

pub coord_min : (m n : ℕ) → coord_of (min m n) ≡ min_z (coord_of m) (coord_of n)
coord_min m n =
    picked m n (min m n) (coord_of m) (coord_of n)
    (λ e. let h = leb-true m n e in let q : min m n ≡ m = omega arith in ap coord_of q)
    (λ e. let h = leb-false m n e in let q : min m n ≡ n = omega arith in ap coord_of q)

pub coord_max : (m n : ℕ) → coord_of (max m n) ≡ max_z (coord_of m) (coord_of n)
coord_max m n =
    picked m n (max m n) (coord_of n) (coord_of m)
    (λ e. let h = leb-true m n e in let q : max m n ≡ n = omega arith in ap coord_of q)
    (λ e. let h = leb-false m n e in let q : max m n ≡ m = omega arith in ap coord_of q)
