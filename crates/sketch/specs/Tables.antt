-- A row put into a table of so many rows.
use Rattle.std.specs.Prelude.{List, [], ◌∷◌, ◌++◌, ℕ, take, drop}

-- x in front of the rows, and each one further; the last falls out
unfoldable pub pushed : {A : Type 0} → A → List A → List A
pushed x [] = []
pushed x (y ∷ l) = x ∷ pushed y l

-- the same from the row `at` on; the rows before it stay
unfoldable pub inserted : {A : Type 0} → ℕ → A → List A → List A
inserted at x l = take at l ++ pushed x (drop at l)
