-- A row put among others: where it goes.
use Prim.Native.Nat.{ℕ, zero, suc, ◌≤◌}
use native.Mathlib.Omega.{arith}
use mathlib.Core.Path.{◌≡◌, refl, ap}
use mathlib.Core.List.{List, [], ◌∷◌, ◌++◌}
use mathlib.Core.Bool.{Bool, true, false, cond, not}
use lib.ListN.{length, take, drop}
use Rattle.lists.specs.Lists.{insert}
use Rattle.lists.specs.Span.{span}

module _ {A : Type 0} where
  -- x put in before the row at p
  unfoldable pub insert_at : ℕ → A → List A → List A
  insert_at p x xs = take p xs ++ x ∷ drop p xs

  pub span_le : (f : A → Bool) (xs : List A) → span f xs ≤ length xs
  unfolding span
  span_le f [] = omega arith
  span_le f (x ∷ xs) = step (f x) (span_le f xs)
    where
      step : (b : Bool) → span f xs ≤ length xs → cond b (suc (span f xs)) zero ≤ suc (length xs)
      step true h = omega arith
      step false h = omega arith

  -- a row inserted in order goes behind those that it does not come before
  pub insert_place : (f : A → A → Bool) (x : A) (xs : List A) → insert f x xs ≡ insert_at (span (λ y. not (f x y)) xs) x xs
  unfolding insert span insert_at
  insert_place f x [] = refl
  insert_place f x (y ∷ ys) = step (f x y) (insert_place f x ys)
    where
      step : (b : Bool) → insert f x ys ≡ insert_at (span (λ z. not (f x z)) ys) x ys → cond b (x ∷ y ∷ ys) (y ∷ insert f x ys) ≡ insert_at (cond (not b) (suc (span (λ z. not (f x z)) ys)) zero) x (y ∷ ys)
      step true e = refl
      step false e = ap {B = List A} (λ l. y ∷ l) e
