-- Walks over the rows of a table: a walk stands at row i of the first n rows of l, and what it is to answer is what the rows from i on
-- still make of it. Each walk is an instance of `Rest`: start, next row, stop at a row, end.
use Prim.Native.Nat.{ℕ, ◌+◌, ◌≤◌, ◌<◌}
use native.Mathlib.Nat.{zero-add, add-zero}
use native.Mathlib.Numerals.{add-one}
use native.Mathlib.Omega.{arith}
use mathlib.Core.Path.{◌≡◌, refl, sym, ap, ◌∙◌}
use mathlib.Core.List.{List, [], ◌∷◌}
use mathlib.Core.Bool.{Bool, true, false}
use lib.ListN.{length, get_or, take, drop, drop_of_length-le}
use lib.Seq.{drop-cons, length-take-le, get_or-take}
use Rattle.lists.specs.Span.{span}

module _ {A : Type 0} where
  -- the rows from i on, by the first of them
  pub rows_from_lem : (l : List A) (n i : ℕ) (d : A) → i < n → n ≤ length l → drop i (take n l) ≡ get_or l i d ∷ drop (i + 1) (take n l)
  rows_from_lem l n i d h k =
      let e : length (take n l) ≡ n = length-take-le n l k in
      let m : i < length (take n l) = omega arith in
      drop-cons (take n l) i d m ∙ rw (add-one, get_or-take)

  pub rows_past : (l : List A) (n i : ℕ) → n ≤ i → n ≤ length l → drop i (take n l) ≡ []
  rows_past l n i h k =
      let e : length (take n l) ≡ n = length-take-le n l k in
      let m : length (take n l) ≤ i = omega arith in
      drop_of_length-le (take n l) m

  -- the walk is at row i of n: f of the rows from there on is the whole
  pub record Rest {B : Type 0} (f : List A → B) (l : List A) (n i : ℕ) (whole : B) : Type 0 where
    pub same : whole ≡ f (drop i (take n l))

  module _ {B : Type 0} {f : List A → B} {l : List A} {n i : ℕ} {whole : B} where
    pub rest_next : {g : List A → B} (d : A) → Rest f l n i whole → ((xs : List A) → f (get_or l i d ∷ xs) ≡ g xs) → i < n → n ≤ length l → Rest g l n (i + 1) whole
    rest_next d s e h k = record { same = s.same ∙ ap f (rows_from_lem l n i d h k) ∙ e (drop (i + 1) (take n l)) }

    pub rest_stop : {b : B} (d : A) → Rest f l n i whole → ((xs : List A) → f (get_or l i d ∷ xs) ≡ b) → i < n → n ≤ length l → b ≡ whole
    rest_stop d s e h k = sym (s.same ∙ ap f (rows_from_lem l n i d h k) ∙ e (drop (i + 1) (take n l)))

    pub rest_end : Rest f l n i whole → n ≤ i → n ≤ length l → f [] ≡ whole
    rest_end s h k = sym (s.same ∙ ap f (rows_past l n i h k))

  pub rest_at : {B : Type 0} (f : List A → B) (l : List A) (n i : ℕ) → Rest f l n i (f (drop i (take n l)))
  rest_at f l n i = record { same = refl }

  -- ---- how many rows pass before the first that does not: the first i do

  pub record Searched (f : A → Bool) (l : List A) (n i : ℕ) : Type 0 where
    pub from : Rest (λ xs. i + span f xs) l n i (span f (take n l))

  pub span_start : (f : A → Bool) (l : List A) (n : ℕ) → Searched f l n 0
  span_start f l n = record { from = record { same = sym (zero-add _) } }

  module _ {f : A → Bool} {l : List A} {n i : ℕ} where
    pub span_next : (d : A) → Searched f l n i → f (get_or l i d) ≡ true → i < n → n ≤ length l → Searched f l n (i + 1)
    unfolding span
    span_next d s e h k = record { from = rest_next d s.from (λ xs. rw e (omega arith)) h k }

    pub span_stop : (d : A) → Searched f l n i → f (get_or l i d) ≡ false → i < n → n ≤ length l → i ≡ span f (take n l)
    unfolding span
    span_stop d s e h k = rest_stop d s.from (λ xs. rw e (omega arith)) h k

    pub span_end : Searched f l n i → n ≤ i → n ≤ length l → i ≡ span f (take n l)
    unfolding span
    span_end s h k = sym (add-zero i) ∙ rest_end s.from h k
