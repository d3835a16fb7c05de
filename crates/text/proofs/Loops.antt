-- A loop that puts the bytes of each row of a table: what is left to put are the bytes of the rows from i on.
use mathlib.Core.Path.{◌≡◌, sym, ap, ◌∙◌}
use mathlib.Core.List.{List, [], ◌∷◌, ◌++◌}
use Prim.Native.Nat.{ℕ, ◌+◌, ◌≤◌, ◌<◌}
use lib.ListN.{length, get_or, take, drop}
use lib.Seq.{drop-cons}
use native.Mathlib.Numerals.{add-one}
use Rattle.std.specs.List.{flat_map}
use Rattle.lists.proofs.Walks.{rows_from_lem, rows_past}

-- the bytes of the rows from i on, of n
abbrev pub left : {A : Type 0} → (A → List ℕ) → List A → ℕ → ℕ → List ℕ
left g l n i = flat_map g (drop i (take n l))

module _ {A : Type 0} (g : A → List ℕ) (l : List A) (n i : ℕ) (few : n ≤ length l) where
  left_next : (d : A) → i < n → left g l n i ≡ g (get_or l i d) ++ left g l n (i + 1)
  left_next d h = ap (flat_map g) (rows_from_lem l n i d h few)

  left_end : n ≤ i → left g l n i ≡ []
  left_end h = ap (flat_map g) (rows_past l n i h few)

-- a row of a slice, and those behind it
pub row_and_rest : {A : Type 0} {x : A} (l : List A) (i : ℕ) → x ≡ get_or l i x → i < length l → drop i l ≡ x ∷ drop (i + 1) l
row_and_rest {x = x} l i e h = drop-cons l i x h ∙ (λ j. sym e j ∷ drop (sym (add-one i) j) l)

-- the bytes of a row, and those of the rows behind it
pub next_row : {A : Type 0} (g : A → List ℕ) (l : List A) (i : ℕ) (d : A) → i < length l → flat_map g (drop i l) ≡ g (get_or l i d) ++ flat_map g (drop (i + 1) l)
next_row g l i d h = ap (flat_map g) (drop-cons l i d h ∙ ap (λ k. get_or l i d ∷ drop k l) (sym (add-one i)))
