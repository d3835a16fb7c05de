-- `any` over lists that are gathered, mapped or tested in another way.
use mathlib.Core.Path.{◌≡◌, refl, ap, ◌∙◌}
use mathlib.Core.List.{List, [], ◌∷◌, map}
use mathlib.Core.Bool.{Bool, false, ◌||◌}
use Rattle.std.specs.List.{list_any, flat_map}
use Rattle.lists.proofs.Appends.{any_append}

module _ {A : Type 0} where
  -- one test is as good as another that tells the same of each row
  pub any_as : {f g : A → Bool} → ((x : A) → f x ≡ g x) → (xs : List A) → list_any f xs ≡ list_any g xs
  any_as e [] = refl
  any_as {f} {g} e (x ∷ xs) = λ i. e x i || any_as e xs i

  pub any_never : {f : A → Bool} → ((x : A) → f x ≡ false) → (xs : List A) → list_any f xs ≡ false
  any_never e [] = refl
  any_never e (x ∷ xs) = rw (e x) (any_never e xs)

  pub any_gather : {B : Type 0} (f : B → Bool) (g : A → List B) (xs : List A) → list_any f (flat_map g xs) ≡ list_any (λ x. list_any f (g x)) xs
  any_gather f g [] = refl
  any_gather f g (x ∷ xs) = any_append f (g x) (flat_map g xs) ∙ ap (λ (b : Bool). list_any f (g x) || b) (any_gather f g xs)

  pub any_map : {B : Type 0} (f : B → Bool) (g : A → B) (xs : List A) → list_any f (map g xs) ≡ list_any (λ x. f (g x)) xs
  any_map f g [] = refl
  any_map f g (x ∷ xs) = ap (λ (b : Bool). f (g x) || b) (any_map f g xs)
