-- Passes over the rows of a table that gather: after i rows of l the state s stands for what g gave for each of them.
-- What it means to stand for a list (H) is the caller's: a table holds it, points are cut at, joints are counted.
use Prim.Native.Nat.{ℕ, ◌+◌, ◌≤◌, ◌<◌}
use native.Mathlib.Numerals.{add-one}
use native.Mathlib.Omega.{arith}
use mathlib.Core.Path.{◌≡◌, refl, sym, ap, ◌∙◌, subst}
use mathlib.Core.List.Memᴰ.{head as ∈-head}
use mathlib.Core.List.Memᴰ.{tail as ∈-tail}
use mathlib.Core.List.{List, [], ◌∷◌, ◌++◌, append-nil, map}
use mathlib.Core.Bool.{Bool, true, false, cond}
use lib.ListN.{length, get_or, take, drop, length-append, take-append-drop}
use lib.Seq.{take-suc, take-take}
use Rattle.lists.specs.Lists.{◌∈◌}
use Rattle.std.specs.List.{filter, flat_map}
use Rattle.lists.proofs.Appends.{keep_append, gather_append}

module _ {A : Type 0} where
  -- one row more
  pub take_more : (l : List A) (i : ℕ) (d : A) → i < length l → take (i + 1) l ≡ take i l ++ (get_or l i d ∷ [])
  take_more l i d h = rw add-one (take-suc l i d h)

  -- ---- the rows that pass a test, as a gathering

  -- the row, if it passes
  unfoldable pub only : (A → Bool) → A → List A
  only f x = cond (f x) (x ∷ []) []

  pub only_yes : (f : A → Bool) (x : A) → f x ≡ true → only f x ≡ x ∷ []
  unfolding only
  only_yes f x e = rw e

  pub only_no : (f : A → Bool) (x : A) → f x ≡ false → only f x ≡ []
  unfolding only
  only_no f x e = rw e

  pub keep_gather : (f : A → Bool) (xs : List A) → flat_map (only f) xs ≡ filter f xs
  unfolding only
  keep_gather f [] = refl
  keep_gather f (x ∷ xs) = step (f x) (keep_gather f xs)
    where
      step : (b : Bool) → flat_map (only f) xs ≡ filter f xs → cond b (x ∷ []) [] ++ flat_map (only f) xs ≡ cond b (x ∷ filter f xs) (filter f xs)
      step true e = ap {B = List A} (λ l. x ∷ l) e
      step false e = e

  -- ---- what a pass gathers

  module _ {B : Type 0} (g : A → List B) (l : List A) where
    pub gather_more : (i : ℕ) (d : A) → i < length l → flat_map g (take (i + 1) l) ≡ flat_map g (take i l) ++ g (get_or l i d)
    gather_more i d h =
        ap (flat_map g) (take_more l i d h) ∙ gather_append g (take i l) (get_or l i d ∷ [])
        ∙ ap (λ (r : List B). flat_map g (take i l) ++ r) (append-nil (g (get_or l i d)))

    -- what a part gives is no longer than what the whole gives
    pub gather_part : (i : ℕ) → length (flat_map g (take i l)) ≤ length (flat_map g l)
    gather_part i =
        let e : flat_map g (take i l) ++ flat_map g (drop i l) ≡ flat_map g l = sym (gather_append g (take i l) (drop i l)) ∙ ap (flat_map g) (take-append-drop i l) in
        omega (arith, simp length-append at (ap length e))

  -- the first i rows and the next one give no more than the first n
  pub gather_room : {B : Type 0} (g : A → List B) (l : List A) (n i : ℕ) (d : A) → i < n → i < length l → length (flat_map g (take i l)) + length (g (get_or l i d)) ≤ length (flat_map g (take n l))
  gather_room g l n i d h k =
      let more : length (flat_map g (take (i + 1) l)) ≡ length (flat_map g (take i l)) + length (g (get_or l i d)) = ap length (gather_more g l i d k) ∙ length-append (flat_map g (take i l)) (g (get_or l i d)) in
      let le : i + 1 ≤ n = omega arith in
      let part : length (flat_map g (take (i + 1) l)) ≤ length (flat_map g (take n l)) = rw (take-take (i + 1) n l le) at (gather_part g (take n l) (i + 1)) in
      omega arith

-- ---- a pass

module _ {A B S : Type 0} where
  pub record Pass (H : List B → S → Type 0) (g : A → List B) (l : List A) (i : ℕ) (s : S) : Type 0 where
    pub so_far : H (flat_map g (take i l)) s

  pub pass_start : {H : List B → S → Type 0} {s : S} (g : A → List B) (l : List A) → H [] s → Pass H g l 0 s
  pass_start g l h = record { so_far = h }

  module _ {H : List B → S → Type 0} {g : A → List B} {l : List A} {i : ℕ} {s : S} where
    -- the row gives ys, and t stands for what was there with ys behind it
    pub pass_next : {ys : List B} {t : S} (d : A) → Pass H g l i s → g (get_or l i d) ≡ ys → H (flat_map g (take i l) ++ ys) t → i < length l → Pass H g l (i + 1) t
    pass_next {ys} {t} d p e h k =
        record { so_far = subst (λ (r : List B). H r t) (sym (gather_more g l i d k ∙ ap (λ (r : List B). flat_map g (take i l) ++ r) e)) h }

    -- the row gives nothing
    pub pass_skip : (d : A) → Pass H g l i s → g (get_or l i d) ≡ [] → i < length l → Pass H g l (i + 1) s
    pass_skip d p e k = pass_next d p e (subst (λ (r : List B). H r s) (sym (append-nil (flat_map g (take i l)))) p.so_far) k

    -- the row gives ys: what was gathered and ys together are no more than what n rows give
    pub pass_room : {ys : List B} (n : ℕ) (d : A) → Pass H g l i s → g (get_or l i d) ≡ ys → i < n → i < length l → length (flat_map g (take i l)) + length ys ≤ length (flat_map g (take n l))
    pass_room n d p e h k = let size = ap length e in omega (arith, gather_room g l n i d h k)

    pub pass_end : (n : ℕ) → Pass H g l i s → i ≡ n → H (flat_map g (take n l)) s
    pass_end n p e = subst (λ (k : ℕ). H (flat_map g (take k l)) s) e p.so_far

-- ---- gathering in another way

module _ {A B : Type 0} where
  -- what is kept of all that is gathered
  pub gather_keep : (f : B → Bool) (g : A → List B) (xs : List A) → flat_map (λ x. filter f (g x)) xs ≡ filter f (flat_map g xs)
  gather_keep f g [] = refl
  gather_keep f g (x ∷ xs) = ap (λ (l : List B). filter f (g x) ++ l) (gather_keep f g xs) ∙ sym (keep_append f (g x) (flat_map g xs))

  pub gather_as : {f g : A → List B} → (xs : List A) → ((x : A) → x ∈ xs → f x ≡ g x) → flat_map f xs ≡ flat_map g xs
  gather_as [] e = refl
  gather_as (x ∷ xs) e = λ i. e x (∈-head refl) i ++ gather_as xs (λ y m. e y (∈-tail m)) i

  pub gather_map : (f : A → B) (xs : List A) → flat_map (λ x. f x ∷ []) xs ≡ map f xs
  gather_map f [] = refl
  gather_map f (x ∷ xs) = ap {B = List B} (λ l. f x ∷ l) (gather_map f xs)

  pub gather_gather : {C : Type 0} (g : B → List C) (f : A → List B) (xs : List A) → flat_map g (flat_map f xs) ≡ flat_map (λ x. flat_map g (f x)) xs
  gather_gather g f [] = refl
  gather_gather {C} g f (x ∷ xs) = gather_append g (f x) (flat_map f xs) ∙ ap (λ (l : List C). flat_map g (f x) ++ l) (gather_gather g f xs)

-- each row as it is
pub gather_each : {A : Type 0} (xs : List A) → flat_map (λ x. x ∷ []) xs ≡ xs
gather_each [] = refl
gather_each {A} (x ∷ xs) = ap {B = List A} (λ l. x ∷ l) (gather_each xs)
