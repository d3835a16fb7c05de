-- A walk over a list that is at row i: what is left of it, each row against the later ones.
use Prim.Native.Nat.{ℕ, ◌+◌, ◌-◌, ◌≤◌, ◌<◌}
use native.Mathlib.Numerals.{add-one}
use native.Mathlib.Omega.{arith}
use mathlib.Core.Bool.{Bool, true, false}
use mathlib.Core.List.{List, [], ◌∷◌}
use mathlib.Core.Path.{◌≡◌, sym, ap, subst, ◌∙◌}
use lib.ListN.{length, get_or, take, drop, length-drop, drop_of_length-le}
use lib.Seq.{drop-cons, take_all}
use Rattle.std.specs.List.{list_all}
use Rattle.lists.specs.Lists.{◌∈◌, pairs}
use Rattle.lists.proofs.Tables.{row_in}

module _ {A : Type 0} where
  -- a row that is read is among the rows
  pub among : (xs : List A) (i : ℕ) (x : A) → i < length xs → x ≡ get_or xs i x → x ∈ xs
  among xs i x h e = subst (λ y. y ∈ xs) (sym e) (subst (λ ys. get_or xs i x ∈ ys) (take_all (length xs) xs (omega arith)) (row_in xs (length xs) i x h (omega arith)))

  -- the rows from i on, by the first of them
  pub rows_left : (xs : List A) (i : ℕ) (x : A) → i < length xs → x ≡ get_or xs i x → drop i xs ≡ x ∷ drop (i + 1) xs
  rows_left xs i x h e = rw (add-one, drop-cons xs i x h, ← e)

  -- a slice from i on, to its end
  pub rows_behind : (xs : List A) (i : ℕ) → take (length xs - i) (drop i xs) ≡ drop i xs
  rows_behind xs i = take_all _ (drop i xs) (rw length-drop (omega arith))

  -- what f makes of the rows from i on, told by the first of them
  pub step_on : {B : Type 0} (f : List A → B) (xs : List A) {b c : B} (i : ℕ) (x : A) → i < length xs → x ≡ get_or xs i x → b ≡ f (drop i xs) → f (x ∷ drop (i + 1) xs) ≡ c → b ≡ c
  step_on f xs i x h e s t = s ∙ ap f (rows_left xs i x h e) ∙ t

  -- and where none is left
  pub step_off : {B : Type 0} (f : List A → B) (xs : List A) {b : B} (i : ℕ) → length xs ≤ i → b ≡ f (drop i xs) → b ≡ f []
  step_off f xs i h s = s ∙ ap f (drop_of_length-le xs h)

  module _ (f : A → Bool) (xs : List A) {b : Bool} (i : ℕ) (x : A) (h : i < length xs) (e : x ≡ get_or xs i x) (s : b ≡ list_all f (drop i xs)) where
    pub each_next : f x ≡ true → b ≡ list_all f (drop (i + 1) xs)
    each_next t = s ∙ ap (list_all f) (rows_left xs i x h e) ∙ rw t

    pub each_stop : f x ≡ false → false ≡ b
    each_stop t = sym (s ∙ ap (list_all f) (rows_left xs i x h e) ∙ rw t)

  module _ (f : A → A → Bool) (xs : List A) {b : Bool} (i : ℕ) (x : A) (h : i < length xs) (e : x ≡ get_or xs i x) (s : b ≡ pairs f (drop i xs)) where
    all_behind : {r : Bool} → list_all (f x) (take (length xs - (i + 1)) (drop (i + 1) xs)) ≡ r → list_all (f x) (drop (i + 1) xs) ≡ r
    all_behind t = ap (list_all (f x)) (sym (rows_behind xs (i + 1))) ∙ t

    pub pair_next : list_all (f x) (take (length xs - (i + 1)) (drop (i + 1) xs)) ≡ true → b ≡ pairs f (drop (i + 1) xs)
    unfolding pairs
    pair_next t = let a = all_behind t in s ∙ ap (pairs f) (rows_left xs i x h e) ∙ rw a

    pub pair_stop : list_all (f x) (take (length xs - (i + 1)) (drop (i + 1) xs)) ≡ false → false ≡ b
    unfolding pairs
    pair_stop t = let a = all_behind t in sym (s ∙ ap (pairs f) (rows_left xs i x h e) ∙ rw a)

  pub pair_end : (f : A → A → Bool) (xs : List A) {b : Bool} (i : ℕ) → length xs ≤ i → b ≡ pairs f (drop i xs) → true ≡ b
  unfolding pairs
  pair_end f xs i h s = sym (s ∙ ap (pairs f) (drop_of_length-le xs h))
