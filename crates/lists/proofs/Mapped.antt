-- A list whose rows are translated, each by t: what a test, a choice, a place in order and a gathering make of it.
use Prim.Native.Nat.{ℕ, zero, suc}
use mathlib.Core.Bool.{Bool, true, false, cond, not, ◌&&◌}
use mathlib.Core.List.Memᴰ.{head as ∈-head}
use mathlib.Core.List.Memᴰ.{tail as ∈-tail}
use mathlib.Core.List.{List, [], ◌∷◌, ◌++◌, map}
use mathlib.Core.Path.{◌≡◌, refl, ap, ◌∙◌}
use lib.ListN.{take, drop, take-append-drop}
use Rattle.lists.specs.Lists.{◌∈◌, links, insert}
use Rattle.std.specs.List.{list_any, list_all, filter, flat_map}
use Rattle.lists.specs.Span.{span}
use Rattle.lists.specs.First.{first_row}
use Rattle.lists.proofs.Somes.{any_as, any_map}

module _ {A B : Type 0} (t : A → B) where
  -- f tells of each translated row what g tells of the row
  module _ (f : B → Bool) (g : A → Bool) (e : (x : A) → f (t x) ≡ g x) where
    pub any_mapped : (xs : List A) → list_any f (map t xs) ≡ list_any g xs
    any_mapped xs = any_map f t xs ∙ any_as e xs

    pub all_mapped : (xs : List A) → list_all f (map t xs) ≡ list_all g xs
    all_mapped [] = refl
    all_mapped (x ∷ xs) = λ i. e x i && all_mapped xs i

    pub first_mapped : (xs : List A) → first_row f (map t xs) ≡ first_row g xs
    unfolding span
    first_mapped [] = refl
    first_mapped (x ∷ xs) = λ i. cond (not (e x i)) (suc (first_mapped xs i)) zero

    pub keep_mapped : (xs : List A) → filter f (map t xs) ≡ map t (filter g xs)
    keep_mapped [] = refl
    keep_mapped (x ∷ xs) = (λ i. cond (e x i) (t x ∷ keep_mapped xs i) (keep_mapped xs i)) ∙ case (g x)
      where
        case : (b : Bool) → cond b (t x ∷ map t (filter g xs)) (map t (filter g xs)) ≡ map t (cond b (x ∷ filter g xs) (filter g xs))
        case true = refl
        case false = refl

  module _ (f : B → B → Bool) (g : A → A → Bool) (e : (x y : A) → f (t x) (t y) ≡ g x y) where
    pub links_mapped : (xs : List A) → links f (map t xs) ≡ links g xs
    unfolding links
    links_mapped [] = refl
    links_mapped (x ∷ []) = refl
    links_mapped (x ∷ (y ∷ ys)) = λ i. e x y i && links_mapped (y ∷ ys) i

    pub insert_mapped : (x : A) (xs : List A) → insert f (t x) (map t xs) ≡ map t (insert g x xs)
    unfolding insert
    insert_mapped x [] = refl
    insert_mapped x (y ∷ ys) = (λ i. cond (e x y i) (t x ∷ t y ∷ map t ys) (t y ∷ insert_mapped x ys i)) ∙ case (g x y)
      where
        case : (b : Bool) → cond b (t x ∷ t y ∷ map t ys) (t y ∷ map t (insert g x ys)) ≡ map t (cond b (x ∷ y ∷ ys) (y ∷ insert g x ys))
        case true = refl
        case false = refl

  pub gather_mapped : {C : Type 0} (f : B → List C) (g : A → List C) → ((x : A) → f (t x) ≡ g x) → (xs : List A) → flat_map f (map t xs) ≡ flat_map g xs
  gather_mapped f g e [] = refl
  gather_mapped f g e (x ∷ xs) = λ i. e x i ++ gather_mapped f g e xs i

  pub map_mapped : {C : Type 0} (f : B → C) (g : A → C) → ((x : A) → f (t x) ≡ g x) → (xs : List A) → map f (map t xs) ≡ map g xs
  map_mapped f g e [] = refl
  map_mapped f g e (x ∷ xs) = λ i. e x i ∷ map_mapped f g e xs i

  -- back takes each row's translation to the row
  pub map_back : (back : B → A) (xs : List A) → ((x : A) → x ∈ xs → back (t x) ≡ x) → map back (map t xs) ≡ xs
  map_back back [] e = refl
  map_back back (x ∷ xs) e = λ i. e x (∈-head refl) i ∷ map_back back xs (λ y m. e y (∈-tail m)) i

-- ---- the first n rows translated by f, those behind by g
module _ {A B : Type 0} (f g : A → B) where
  abbrev pub parted : ℕ → List A → List B
  parted n l = map f (take n l) ++ map g (drop n l)

  pub front : (n : ℕ) (l : List A) → take n (parted n l) ≡ map f (take n l)
  front zero l = refl
  front (suc n) [] = refl
  front (suc n) (x ∷ l) = ap (λ (k : List B). f x ∷ k) (front n l)

  pub rear : (n : ℕ) (l : List A) → drop n (parted n l) ≡ map g (drop n l)
  rear zero l = refl
  rear (suc n) [] = refl
  rear (suc n) (x ∷ l) = rear n l

-- and back again
pub parted_back : {A B : Type 0} (f g : A → B) (h k : B → A) (n : ℕ) (l : List A) → ((x : A) → x ∈ take n l → h (f x) ≡ x) → ((x : A) → x ∈ drop n l → k (g x) ≡ x) → parted h k n (parted f g n l) ≡ l
parted_back f g h k n l p q =
    (λ i. map h (front f g n l i) ++ map k (rear f g n l i))
    ∙ (λ i. map_back f h (take n l) p i ++ map_back g k (drop n l) q i)
    ∙ take-append-drop n l
