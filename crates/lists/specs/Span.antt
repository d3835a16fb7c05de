-- "rows strictly rise": where a row stands among others.
use Rattle.std.specs.Prelude.{ℕ, zero, suc, Bool, cond, List, [], ◌∷◌}

module _ {A : Type 0} where
  -- how many rows pass the test before the first that does not
  unfoldable pub span : (A → Bool) → List A → ℕ
  span f [] = zero
  span f (x ∷ xs) = cond (f x) (suc (span f xs)) zero
