-- Rows by their places: what a search finds, rows in order, lists compared place by place, and an array filled row by row.
use Prim.Native.Nat.{ℕ, zero, suc, ◌+◌, ◌≤◌, ◌<◌, suc-le-suc}
use native.Mathlib.Nat.{le_of_suc-le-suc}
use native.Mathlib.Omega.{arith}
use mathlib.Core.Bool.{Bool, not}
use mathlib.Core.List.Memᴰ.{append_left as ∈-left}
use mathlib.Core.List.Memᴰ.{append_right as ∈-right}
use mathlib.Core.List.Memᴰ.{head as ∈-head}
use mathlib.Core.List.Memᴰ.{tail as ∈-tail}
use mathlib.Core.List.{List, [], ◌∷◌, ◌++◌, map, map-append}
use mathlib.Core.Path.{◌≡◌, refl, sym, ap, ap₂, subst, ◌∙◌}
use lib.ListN.{length, get_or, set, take, drop, take-append-drop}
use lib.Seq.{get_or-take, length-take-le}
use Rattle.lists.specs.Lists.{◌∈◌, Rows, none, more}
use Rattle.lists.specs.Span.{span}
use Rattle.lists.proofs.Tests.{Reads, choose, stable, not_reads}
use Rattle.lists.proofs.Pushes.{take_push}
use Rattle.lists.proofs.Passes.{take_more}

-- ---- for lists

module _ {A : Type 0} where
  pub get_in : (xs : List A) (i : ℕ) (d : A) → i < length xs → get_or xs i d ∈ xs
  get_in [] i d h = absurd (omega arith)
  get_in (x ∷ xs) zero d h = ∈-head (λ i. x)
  get_in (x ∷ xs) (suc i) d h = ∈-tail (get_in xs i d (le_of_suc-le-suc h))

  -- rows of a part are rows of the whole
  pub in_take : (n : ℕ) (xs : List A) {x : A} → x ∈ take n xs → x ∈ xs
  in_take n xs {x} m = subst (λ (l : List A). x ∈ l) (take-append-drop n xs) (∈-left (drop n xs) m)

  pub in_drop : (n : ℕ) (xs : List A) {x : A} → x ∈ drop n xs → x ∈ xs
  in_drop n xs {x} m = subst (λ (l : List A). x ∈ l) (take-append-drop n xs) (∈-right (take n xs) m)

  -- rows in order, by their places
  pub rows_at : {R : A → A → Type 0} {xs : List A} → Rows R xs → (i j : ℕ) (d : A) → i < j → j < length xs → R (get_or xs i d) (get_or xs j d)
  rows_at none i j d l h = absurd (omega arith)
  rows_at (more f r) i zero d l h = absurd (omega arith)
  rows_at (more {xs = xs} f r) zero (suc j) d l h = f (get_or xs j d) (get_in xs j d (le_of_suc-le-suc h))
  rows_at (more f r) (suc i) (suc j) d l h = rows_at r i j d (le_of_suc-le-suc l) (le_of_suc-le-suc h)

  index_of : {x : A} {xs : List A} (d : A) → x ∈ xs → (r : ℕ) × r < length xs × (get_or xs r d ≡ x)
  index_of d (∈-head e) = (zero, omega arith, sym e)
  index_of d (∈-tail m) = let t = index_of d m in (suc t.0, omega (arith, t.1), t.2)

  -- the same of the first n rows of a table
  pub table_at : {R : A → A → Type 0} (l : List A) (n : ℕ) → Rows R (take n l) → n ≤ length l → (i j : ℕ) (d : A) → i < j → j < n → R (get_or l i d) (get_or l j d)
  table_at {R} l n r a i j d g h =
      let z : length (take n l) ≡ n = length-take-le n l a in
      subst (λ (x : A). R x (get_or l j d)) (get_or-take n l i d (omega arith)) (subst (λ (y : A). R (get_or (take n l) i d) y) (get_or-take n l j d h) (rows_at r i j d g (omega arith)))

  pub table_index : (l : List A) (n : ℕ) {x : A} (d : A) → x ∈ take n l → n ≤ length l → (r : ℕ) × r < n × (get_or l r d ≡ x)
  table_index l n d m a =
      let z : length (take n l) ≡ n = length-take-le n l a in
      let t = index_of d m in
      let h : t.0 < n = omega (arith, t.1) in
      (t.0, h, sym (get_or-take n l t.0 d h) ∙ t.2)

  -- where some row passes a test, the first to pass it does
  module _ {P : A → Type 0} {f : A → Bool} (test : (x : A) → Reads (P x) (f x)) where
    pub span_found : {x : A} {xs : List A} (d : A) → x ∈ xs → P x → (span (λ y. not (f y)) xs < length xs) × P (get_or xs (span (λ y. not (f y)) xs) d)
    unfolding span
    span_found {xs = []} d m h = elim m [ ]
    span_found {xs = y ∷ ys} d (∈-head e) h = choose (not_reads (test y)) (λ n. (n < suc (length ys)) × P (get_or (y ∷ ys) n d))
        (λ no. absurd (no (subst P e h)))
        (λ yes. (omega arith, stable (test y) yes))
    span_found {xs = y ∷ ys} d (∈-tail m) h = let ih = span_found d m h in
        choose (not_reads (test y)) (λ n. (n < suc (length ys)) × P (get_or (y ∷ ys) n d))
        (λ no. (suc-le-suc ih.0, ih.1))
        (λ yes. (omega arith, stable (test y) yes))

-- where two lists have the same images, so have their rows
pub maps_at : {A B C : Type 0} (f : A → C) (g : B → C) (xs : List A) (ys : List B) → map f xs ≡ map g ys → (i : ℕ) (d : A) (e : B) → i < length xs → f (get_or xs i d) ≡ g (get_or ys i e)
maps_at f g [] ys q i d e h = absurd (omega arith)
maps_at f g (x ∷ xs) [] q i d e h = let z : ◌≡◌ {A = ℕ} 0 1 = cc in absurd (omega arith)
maps_at f g (x ∷ xs) (y ∷ ys) q zero d e h = cc
maps_at f g (x ∷ xs) (y ∷ ys) q (suc i) d e h = let t : map f xs ≡ map g ys = cc in maps_at f g xs ys t i d e (le_of_suc-le-suc h)

-- ---- an array filled row by row: what g sees in its first i places is what f is of the first i rows

pub record Filled {A B C : Type 0} (g : B → C) (f : A → C) (rows : List A) (i : ℕ) (out : List B) : Type 0 where
  pub so_far : map g (take i out) ≡ map f (take i rows)

module _ {A B C : Type 0} {g : B → C} {f : A → C} {rows : List A} {out : List B} where
  pub filled_start : Filled g f rows 0 out
  filled_start = record { so_far = refl }

  pub filled_next : {i : ℕ} (d : A) (x : B) → Filled g f rows i out → g x ≡ f (get_or rows i d) → i < length rows → i < length out → Filled g f rows (i + 1) (set out i x)
  filled_next {i} d x h e a b = record {
    so_far =
        ap (map g) (take_push out i x b)
        ∙ map-append g (take i out) (x ∷ [])
        ∙ ap₂ (λ l y. l ++ (y ∷ [])) h.so_far e
        ∙ sym (ap (map f) (take_more rows i d a) ∙ map-append f (take i rows) (get_or rows i d ∷ []));
  }

  pub filled_end : {i : ℕ} (n : ℕ) → Filled g f rows i out → i ≡ n → map g (take n out) ≡ map f (take n rows)
  filled_end n h e = subst (λ k. map g (take k out) ≡ map f (take k rows)) e h.so_far
