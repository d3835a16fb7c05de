-- `is_sorted_by` of a slice answers the test `links`.
use Prim.Native.Nat.{ℕ, zero, suc, ◌+◌, ◌<◌}
use native.Mathlib.Omega.{arith}
use mathlib.Core.Bool.{Bool, true, false, ◌&&◌}
use mathlib.Core.List.{List, [], ◌∷◌}
use mathlib.Core.Path.{◌≡◌, refl, ap, ◌∙◌}
use lib.ListN.{length, get_or}
use Rattle.std.specs.List.{IsAllAdjacentAnswer}
use Rattle.std.specs.Fn.{Called, Mut, ComputesOnPairs}
use Rattle.std.proofs.Common.{Bor}
use Rattle.std.proofs.lemmas.Fn.{always_returns_same}
use Rattle.lists.specs.Lists.{links}

-- one failing test is enough
fails : (a b : Bool) → false ≡ b → false ≡ (a && b)
fails true b e = e
fails false b e = refl

module _ {A : Type 0} where
  after : (x : A) (xs : List A) (k : ℕ) (d : A) → get_or (x ∷ xs) (suc k + 1) d ≡ get_or xs (k + 1) d
  after x xs k d = let e : suc k + 1 ≡ suc (k + 1) = omega arith in ap (λ n. get_or (x ∷ xs) n d) e

module _ {A : Type 0} (f : A → A → Bool) where
  linked : (xs : List A) → ((k : ℕ) (d : A) → k + 1 < length xs → true ≡ f (get_or xs k d) (get_or xs (k + 1) d)) → true ≡ links f xs
  unfolding links
  linked [] h = refl
  linked (x ∷ []) h = refl
  linked (x ∷ (y ∷ ys)) h =
      rw (← h 0 x (omega arith)) (linked (y ∷ ys) (λ k d b. h (suc k) d (omega arith) ∙ ap (f (get_or (y ∷ ys) k d)) (after x (y ∷ ys) k d)))

  parted : (xs : List A) (k : ℕ) → k + 1 < length xs → ((d : A) → false ≡ f (get_or xs k d) (get_or xs (k + 1) d)) → false ≡ links f xs
  unfolding links
  parted [] k b h = absurd (omega arith)
  parted (x ∷ []) k b h = absurd (omega arith)
  parted (x ∷ (y ∷ ys)) zero b h = rw (← h x)
  parted (x ∷ (y ∷ ys)) (suc k) b h =
      fails (f x y) _ (parted (y ∷ ys) k (omega arith) (λ d. h d ∙ ap (f (get_or (y ∷ ys) k d)) (after x (y ∷ ys) k d)))

  pub links_sorted : (xs : List A) (r : Bool) → IsAllAdjacentAnswer (λ x y b. b ≡ f x y) xs r → r ≡ links f xs
  links_sorted xs true h = linked xs h
  links_sorted xs false h = parted xs h.0 h.1 h.2

-- the same, of a closure that answers the test and changes nothing
pub links_of_sorted_by : {X : Type 0} (f : X → X → Bool) {F : Type 0} {g : Mut F (Bor X × (Bor X × Unit {0})) Bool} {p : F} (xs : List X) (r : Bool)
    → ((e : X → X → Bool) → ComputesOnPairs g e p → IsAllAdjacentAnswer (λ x y b. b ≡ e x y) xs r)
    → ((a : Bor X × (Bor X × Unit {0})) (s : Bool) (p' : F) → Called g p a s p' → (s ≡ f a.0.now a.1.0.now) × (p' ≡ p)) → r ≡ links f xs
links_of_sorted_by f {g = g} {p = p} xs r h k = links_sorted f xs r (h f (always_returns_same g _ p k))
