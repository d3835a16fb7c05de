-- What stands at a place of a list; and one list, turned about, before another.
use mathlib.Core.Path.{◌≡◌, refl, subst}
use mathlib.Core.Logic.{◌⊎◌, inl, inr, ⊎_elim}
use mathlib.Core.List.Memᴰ.{head as ∈-head}
use mathlib.Core.List.Memᴰ.{not-nil as ∈-nil}
use mathlib.Core.List.Memᴰ.{tail as ∈-tail}
use mathlib.Core.List.{List, [], ◌∷◌, map}
use Prim.Native.Nat.{ℕ, zero, suc, ◌<◌, suc-le-suc}
use native.Mathlib.Nat.{le_of_suc-le-suc}
use native.Mathlib.Omega.{arith}
use lib.ListN.{length, get_or}
use Rattle.lists.specs.Lists.{◌∈◌}
use Rattle.lists.proofs.Lists.{in_cons}
use Rattle.nets.specs.Nets.{At, first, later}

module _ {A : Type 0} where
  pub at_low : {xs : List A} {i : ℕ} {x : A} → At xs i x → i < length xs
  at_low first = omega arith
  at_low (later a) = suc-le-suc (at_low a)

  -- something stands at each place, and one thing only
  pub at_some : (xs : List A) (i : ℕ) → i < length xs → (x : A) × At xs i x
  at_some [] i h = absurd (omega arith)
  at_some (x ∷ xs) zero h = (x, first)
  at_some (x ∷ xs) (suc i) h = let r = at_some xs i (le_of_suc-le-suc h) in (r.0, later r.1)

  pub at_one : {xs : List A} {i : ℕ} {x y : A} → At xs i x → At xs i y → x ≡ y
  at_one first first = refl
  at_one (later a) (later b) = at_one a b

  pub at_get : {xs : List A} {i : ℕ} {x : A} (d : A) → At xs i x → get_or xs i d ≡ x
  at_get d first = refl
  at_get d (later a) = at_get d a

  pub at_in : {xs : List A} {i : ℕ} {x : A} → At xs i x → x ∈ xs
  at_in first = ∈-head refl
  at_in (later a) = ∈-tail (at_in a)

  pub in_at : {x : A} {xs : List A} → x ∈ xs → (i : ℕ) × At xs i x
  in_at {x} (∈-head {xs = ys} e) = (0, subst (λ y. At (y ∷ ys) 0 x) e first)
  in_at (∈-tail m) = let r = in_at m in (suc r.0, later r.1)

  pub at_map : {B : Type 0} (f : A → B) {xs : List A} {i : ℕ} {x : A} → At xs i x → At (map f xs) i (f x)
  at_map f first = first
  at_map f (later a) = later (at_map f a)

-- ---- for lists: one list, the last first, before another
module _ {A : Type 0} where
  unfoldable pub onto : List A → List A → List A
  onto [] ys = ys
  onto (x ∷ xs) ys = onto xs (x ∷ ys)

  pub onto_in : (xs ys : List A) {z : A} → z ∈ onto xs ys → (z ∈ xs) ⊎ (z ∈ ys)
  unfolding onto
  onto_in [] ys i = inr i
  onto_in (x ∷ xs) ys {z} i = ⊎_elim (λ (j : z ∈ xs). inl (∈-tail j)) (in_cons (λ w. (w ∈ x ∷ xs) ⊎ (w ∈ ys)) (inl (∈-head refl)) (λ w j. inr j)) (onto_in xs (x ∷ ys) i)

  pub in_onto : (xs : List A) {ys : List A} {z : A} → (z ∈ xs) ⊎ (z ∈ ys) → z ∈ onto xs ys
  unfolding onto
  in_onto [] (inl i) = absurd (∈-nil i)
  in_onto [] (inr i) = i
  in_onto (x ∷ xs) (inl (∈-head e)) = in_onto xs (inr (∈-head e))
  in_onto (x ∷ xs) (inl (∈-tail i)) = in_onto xs (inl i)
  in_onto (x ∷ xs) (inr i) = in_onto xs (inr (∈-tail i))
