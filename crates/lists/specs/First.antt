-- "the first .., in row order" (document 01's drawing check, document 02's P4): as a statement, and the test beside it.
use Rattle.std.specs.Prelude.{ℕ, suc, Bool, not, List, ◌∷◌}
use Rattle.lists.specs.Span.{span}

-- P holds at row i, and at no row before it
pub data FirstAt {A : Type 0} (P : A → Type 0) : List A → ℕ → Type 0 where
  now : {x : A} {xs : List A} → P x → FirstAt P (x ∷ xs) 0
  next : {x : A} {xs : List A} {i : ℕ} → (P x → ⊥) → FirstAt P xs i → FirstAt P (x ∷ xs) (suc i)

-- the row of the first that passes the test: so many stand before it; where none passes, the number of all rows
abbrev pub first_row : {A : Type 0} → (A → Bool) → List A → ℕ
first_row f xs = span (λ x. not (f x)) xs
