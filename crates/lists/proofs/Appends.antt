-- One list behind another, for loops that go row by row, and lengths.
use Prim.Native.Nat.{suc, ◌+◌, ◌*◌, ◌≤◌}
use mathlib.Core.Bool.{Bool, true, false, ◌||◌, cond, not}
use mathlib.Core.List.Memᴰ.{head as ∈-head}
use mathlib.Core.List.Memᴰ.{tail as ∈-tail}
use mathlib.Core.List.{List, [], ◌∷◌, ◌++◌, append_assoc}
use mathlib.Core.Path.{◌≡◌, refl, sym, ap, ◌∙◌}
use native.Mathlib.Omega.{arith}
use lib.ListN.{length, length-append}
use Rattle.lists.specs.Lists.{◌∈◌, insert}
use Rattle.std.specs.List.{list_any, filter, flat_map}
use Rattle.lists.proofs.Tests.{Reads, test, choose}

module _ {A : Type 0} where
  -- ---- one list behind another, for loops that go row by row

  pub any_append : (f : A → Bool) (xs ys : List A) → list_any f (xs ++ ys) ≡ list_any f xs || list_any f ys
  any_append f [] ys = refl
  any_append f (x ∷ xs) ys = step (f x) (any_append f xs ys)
    where
      step : (b : Bool) → list_any f (xs ++ ys) ≡ list_any f xs || list_any f ys → (b || list_any f (xs ++ ys)) ≡ ((b || list_any f xs) || list_any f ys)
      step true e = refl
      step false e = e

  pub keep_append : (f : A → Bool) (xs ys : List A) → filter f (xs ++ ys) ≡ filter f xs ++ filter f ys
  keep_append f [] ys = refl
  keep_append f (x ∷ xs) ys = step (f x) (keep_append f xs ys)
    where
      step : (b : Bool) → filter f (xs ++ ys) ≡ filter f xs ++ filter f ys → cond b (x ∷ filter f (xs ++ ys)) (filter f (xs ++ ys)) ≡ cond b (x ∷ filter f xs) (filter f xs) ++ filter f ys
      step true e = ap {B = List A} (λ l. x ∷ l) e
      step false e = e

  pub gather_append : {B : Type 0} (f : A → List B) (xs ys : List A) → flat_map f (xs ++ ys) ≡ flat_map f xs ++ flat_map f ys
  gather_append f [] ys = refl
  gather_append f (x ∷ xs) ys = ap (λ l. f x ++ l) (gather_append f xs ys) ∙ sym (append_assoc (f x) (flat_map f xs) (flat_map f ys))

  -- past the rows that x does not come before, and no further
  module _ (f : A → A → Bool) (x : A) {P : A → Type 0} (r : (y : A) → Reads (P y) (f x y)) where
    pub insert_skip : (xs ys : List A) → ((y : A) → y ∈ xs → P y → ⊥) → insert f x (xs ++ ys) ≡ xs ++ insert f x ys
    unfolding insert
    insert_skip [] ys h = refl
    insert_skip (z ∷ xs) ys h = let ih = insert_skip xs ys (λ y m. h y (∈-tail m)) in
        choose (r z) (λ l. l ≡ z ∷ (xs ++ insert f x ys)) (λ p. absurd (h z (∈-head refl) p)) (λ n. ap {B = List A} (λ l. z ∷ l) ih)

  -- ---- lengths

  pub length_gather : {B : Type 0} (f : A → List B) → ((x : A) → length (f x) ≤ 3) → (xs : List A) → length (flat_map f xs) ≤ 3 * length xs
  length_gather f h [] = omega arith
  length_gather f h (x ∷ xs) = omega (arith, h x, length_gather f h xs, length-append (f x) (flat_map f xs))

  pub length_keep : (f : A → Bool) (xs : List A) → length (filter f xs) ≤ length xs
  length_keep f [] = omega arith
  length_keep f (x ∷ xs) = let ih = length_keep f xs in choose (test (f x)) (λ (l : List A). length l ≤ suc (length xs)) {x = x ∷ filter f xs} {y = filter f xs} (λ t. omega arith) (λ n. omega arith)

  pub length_parts : (f : A → Bool) (xs : List A) → length (filter (λ x. not (f x)) xs) + length (filter f xs) ≡ length xs
  length_parts f [] = refl
  length_parts f (x ∷ xs) = step (f x) (length_parts f xs)
    where
      step : (b : Bool) → length (filter (λ y. not (f y)) xs) + length (filter f xs) ≡ length xs
          → length (cond (not b) (x ∷ filter (λ y. not (f y)) xs) (filter (λ y. not (f y)) xs)) + length (cond b (x ∷ filter f xs) (filter f xs)) ≡ suc (length xs)
      step true ih = omega arith
      step false ih = omega arith

  pub length_insert : (f : A → A → Bool) (x : A) (ys : List A) → length (insert f x ys) ≡ suc (length ys)
  unfolding insert
  length_insert f x [] = refl
  length_insert f x (y ∷ ys) = let ih = length_insert f x ys in choose (test (f x y)) (λ (l : List A). length l ≡ suc (suc (length ys))) (λ t. refl) (λ n. ap suc ih)
