-- A table that has f of each place.
use mathlib.Core.Path.{◌≡◌, refl, sym, ap, ◌∙◌}
use mathlib.Core.Logic.{⊎_elim}
use mathlib.Core.List.{List, [], ◌∷◌}
use Prim.Native.Nat.{ℕ, zero, suc, ◌≤◌, ◌<◌}
use native.Mathlib.Numerals.{add-one}
use native.Mathlib.Omega.{arith}
use lib.ListN.{length, get_or, set, length-append, get_or-append, get_or-eq_default}
use lib.Seq.{ext_get_or, get_or_at, get_or-set_same, get_or-set_other}
use Rattle.lists.proofs.Tests.{decide, eqb_reads, ltb_reads}
use Rattle.nets.specs.Tables.{tabulate, Falling}

pub length_tabulate : (f : ℕ → ℕ) (n : ℕ) → length (tabulate f n) ≡ n
unfolding tabulate
length_tabulate f zero = refl
length_tabulate f (suc n) = length-append (tabulate f n) (f n ∷ []) ∙ add-one (length (tabulate f n)) ∙ ap suc (length_tabulate f n)

pub tabulate_at : (f : ℕ → ℕ) (n i : ℕ) → i < n → get_or (tabulate f n) i 0 ≡ f i
unfolding tabulate
tabulate_at f zero i h = absurd (omega arith)
tabulate_at f (suc n) i h = ⊎_elim
    (λ e. rw e (get_or_at (tabulate f n) (f n) [] 0 n (length_tabulate f n)))
    (λ ne. get_or-append (tabulate f n) (f n ∷ []) 0 i (omega (arith, ne, length_tabulate f n)) ∙ tabulate_at f n i (omega (arith, ne)))
    (decide (eqb_reads i n))

-- a list is told by what stands at each place
pub tabulated : (l : List ℕ) (f : ℕ → ℕ) (n : ℕ) → length l ≡ n → ((i : ℕ) → i < n → get_or l i 0 ≡ f i) → l ≡ tabulate f n
tabulated l f n len h = ext_get_or 0 l (tabulate f n) (len ∙ sym (length_tabulate f n)) (λ i lt. h i (omega (arith, lt, len)) ∙ sym (tabulate_at f n i (omega (arith, lt, len))))

pub tabulate_as : (f g : ℕ → ℕ) (n : ℕ) → ((i : ℕ) → i < n → f i ≡ g i) → tabulate f n ≡ tabulate g n
tabulate_as f g n h = tabulated (tabulate f n) g n (length_tabulate f n) (λ i lt. tabulate_at f n i lt ∙ h i lt)

pub tabulate_falls : (f : ℕ → ℕ) (n : ℕ) → ((i : ℕ) → f i ≤ i) → Falling (tabulate f n)
tabulate_falls f n h = record {
  low = λ i. ⊎_elim
      (λ (lt : i < n). omega (arith, tabulate_at f n i lt, h i))
      (λ (ge : i < n → ⊥). omega (arith, get_or-eq_default (tabulate f n) 0 {n = i} (omega (arith, ge, length_tabulate f n))))
      (decide (ltb_reads i n));
}

-- what stands at each place after a store
pub after_set : (l : List ℕ) (i v j w : ℕ) → i < length l → (j ≡ i → v ≡ w) → ((j ≡ i → ⊥) → get_or l j 0 ≡ w) → get_or (set l i v) j 0 ≡ w
after_set l i v j w inside here else = ⊎_elim
    (λ e. ap (λ k. get_or (set l i v) k 0) e ∙ get_or-set_same l i v 0 inside ∙ here e)
    (λ ne. get_or-set_other l i j v 0 ne ∙ else ne)
    (decide (eqb_reads j i))
