-- A row put into a table by a pass that carries one row: what is left to do is always the whole insertion.
use mathlib.Core.Path.{◌≡◌, sym, ◌∙◌}
use mathlib.Core.List.{List, ◌∷◌, append-nil, append_assoc}
use Prim.Native.Nat.{ℕ, ◌+◌, ◌<◌, ◌≤◌}
use native.Mathlib.Numerals.{add-one}
use native.Mathlib.Omega.{arith}
use lib.ListN.{length, get_or, drop, set, drop_of_length-le, length-set}
use lib.Seq.{drop-cons, drop-set-lt, take_all}
use Rattle.lists.proofs.Pushes.{take_push}
use Rattle.sketch.specs.Tables.{pushed, inserted}

module _ {A : Type 0} where
  insert_next : (l : List A) (k : ℕ) (x d : A) → k < length l → inserted (k + 1) (get_or l k d) (set l k x) ≡ inserted k x l
  unfolding inserted pushed
  insert_next l k x d h =
      let e : drop k l ≡ get_or l k d ∷ drop (k + 1) l = rw (add-one, drop-cons l k d h) in
      rw (take_push l k x h, drop-set-lt (k + 1) l k x (omega arith), e, append_assoc)

  insert_end : (l : List A) (k : ℕ) (x : A) → length l ≤ k → inserted k x l ≡ l
  unfolding inserted pushed
  insert_end l k x h = rw (drop_of_length-le l h, take_all k l h) (append-nil l)

  -- the rows of a table of n, where the row x is carried and still to be put at k; `whole` is what is to come out
  pub record Carried (n : ℕ) (whole rows : List A) (k : ℕ) (x : A) : Type 0 where
    pub left : inserted k x rows ≡ whole
    pub long : length rows ≡ n

  pub carry_next : {n : ℕ} {whole rows : List A} {k : ℕ} {x : A} (d : A) → Carried n whole rows k x → k < n → Carried n whole (set rows k x) (k + 1) (get_or rows k d)
  carry_next {n} {whole} {rows} {k} {x} d c h = record {
    left = insert_next rows k x d (omega (arith, c.long)) ∙ c.left;
    long = length-set rows k x ∙ c.long;
  }

  pub carry_end : {n : ℕ} {whole rows : List A} {k : ℕ} {x : A} → Carried n whole rows k x → n ≤ k → rows ≡ whole
  carry_end {n} {whole} {rows} {k} {x} c h = sym (insert_end rows k x (omega (arith, c.long))) ∙ c.left
