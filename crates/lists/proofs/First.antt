-- The first row that passes a test: it stands among the rows just where some row passes, and is then the first of which the statement holds.
use Prim.Native.Nat.{ℕ, suc, ◌+◌, ◌≤◌, ◌<◌, suc-le-suc}
use native.Mathlib.Nat.{le_of_suc-le-suc}
use native.Mathlib.Omega.{arith}
use mathlib.Core.Bool.{Bool, true, false, cond, not, ◌&&◌, ◌||◌}
use mathlib.Core.List.Memᴰ.{head as ∈-head}
use mathlib.Core.List.Memᴰ.{tail as ∈-tail}
use mathlib.Core.List.{List, [], ◌∷◌}
use mathlib.Core.Path.{◌≡◌, refl, sym, ap, subst}
use borrow.Author.Tests.{ltb-true}
use lib.Dec.{ltb, eqb}
use lib.ListN.{length, get_or, take}
use lib.Seq.{length-take-le}
use Rattle.lists.specs.Lists.{◌∈◌}
use Rattle.std.specs.List.{list_any}
use Rattle.lists.specs.Span.{span}
use Rattle.lists.specs.First.{FirstAt, now, next, first_row}
use Rattle.lists.proofs.Tests.{Reads, pass, fail, same_test, ltb_reads, both, clash}
use Rattle.lists.proofs.Walks.{Searched, span_start, span_next}

module _ {A : Type 0} (f : A → Bool) where
  pub first_reads : (xs : List A) → Reads (first_row f xs < length xs) (list_any f xs)
  unfolding span
  first_reads [] = fail (λ h. omega arith)
  first_reads (x ∷ xs) = step (f x) (first_reads xs)
    where
      step : (b : Bool) {a : Bool} → Reads (first_row f xs < length xs) a → Reads (cond (not b) (suc (first_row f xs)) 0 < suc (length xs)) (b || a)
      step true r = pass (omega arith)
      step false (pass h) = pass (suc-le-suc h)
      step false (fail n) = fail (λ h. n (le_of_suc-le-suc h))

  -- among the first n rows of a table
  pub first_below : (l : List A) (n : ℕ) {row : ℕ} → row ≡ first_row f (take n l) → n ≤ length l → ltb row n ≡ list_any f (take n l)
  first_below l n {row} e h = same_test (ltb_reads row n) (subst (λ i. Reads (i < n) (list_any f (take n l))) (sym e) (subst (λ m. Reads (first_row f (take n l) < m) (list_any f (take n l))) (length-take-le n l h) (first_reads (take n l))))

  pub first_row_lem : {P : A → Type 0} → ((x : A) → Reads (P x) (f x)) → (xs : List A) → list_any f xs ≡ true → FirstAt P xs (first_row f xs)
  unfolding span
  first_row_lem test [] e = absurd (clash e refl)
  first_row_lem {P} test (x ∷ xs) e = step (test x) (first_row_lem test xs) e
    where
      step : {b : Bool} → Reads (P x) b → (list_any f xs ≡ true → FirstAt P xs (first_row f xs)) → (b || list_any f xs) ≡ true → FirstAt P (x ∷ xs) (cond (not b) (suc (first_row f xs)) 0)
      step (pass p) later e = now p
      step (fail n) later e = next n (later e)

-- ---- a walk that stops at the first row that passes: it stands at row i of the first n, and row is n until one has passed

pub record Sought {A : Type 0} (f : A → Bool) (l : List A) (n i row : ℕ) : Type 0 where
  pub bound : row ≤ n
  pub none_yet : row ≡ n → Searched (λ x. not (f x)) l n i
  pub found : row < n → row ≡ first_row f (take n l)

pub sought_start : {A : Type 0} (f : A → Bool) (l : List A) (n : ℕ) → Sought f l n 0 n
sought_start f l n = record { bound = omega arith; none_yet = λ e. span_start (λ x. not (f x)) l n; found = λ h. absurd (omega arith) }

-- a walk goes on among the rows, whatever else it asks
pub sought_within : (i n : ℕ) (b : Bool) → (ltb i n && b) ≡ true → i < n
sought_within i n b e = ltb-true i n (both (ltb i n) b e).0

module _ {A : Type 0} {f : A → Bool} {l : List A} {n i row : ℕ} where
  module _ (d : A) (s : Sought f l n i row) (on : (ltb i n && eqb row n) ≡ true) (k : n ≤ length l) where
    pub sought_next : f (get_or l i d) ≡ false → Sought f l n (i + 1) row
    sought_next e = record { bound = s.bound; none_yet = λ q. span_next d (s.none_yet q) (ap not e) (sought_within i n (eqb row n) on) k; found = s.found }

-- a first row is one of the rows
pub first_in : {A : Type 0} {P : A → Type 0} {xs : List A} {i : ℕ} → FirstAt P xs i → ((x : A) → x ∈ xs → P x → ⊥) → ⊥
first_in (now {x} p) f = f x (∈-head refl) p
first_in (next n g) f = first_in g (λ x m. f x (∈-tail m))
