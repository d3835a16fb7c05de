-- A table: so many rows, of which the first are in use; "rows beyond the counts are all zero".
use Rattle.std.specs.Prelude.{ℕ, ◌-◌, ◌≤◌, ◌≡◌, List, ◌++◌, length, replicate}

-- the list, with z behind it up to n places
unfoldable pub pad : {A : Type 0} → ℕ → A → List A → List A
pad n z xs = xs ++ replicate (n - length xs) z

-- the table of n rows at rows, of which the first count are in use, holds the list xs; the others are all z
pub record Holds {A : Type 0} (n : ℕ) (z : A) (xs : List A) (rows : List A) (count : ℕ) : Type 0 where
  pub rows_are : rows ≡ pad n z xs
  pub count_is : count ≡ length xs
  pub room : length xs ≤ n
