-- Rows in order, told by neighbours alone: what the test `links` reads.
use mathlib.Core.List.{List, [], ◌∷◌}

-- each row stands in R to the next one
pub data Adjacent {A : Type 0} (R : A → A → Type 0) : List A → Type 0 where
  empty : Adjacent R []
  single : {x : A} → Adjacent R (x ∷ [])
  link : {x y : A} {xs : List A} → R x y → Adjacent R (y ∷ xs) → Adjacent R (x ∷ y ∷ xs)
