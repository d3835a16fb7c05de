-- For lists: a row put into a table in one pass: from its place on each row goes one place on.
use Rattle.std.proofs.Common.{ℕ, ◌+◌, ◌≤◌, ◌<◌, ◌≡◌, ◌∙◌, sym, ap, Bool, not, List, [], ◌∷◌, ◌++◌, length, take, drop, get_or, set, append_assoc, arith}
use lib.Seq.{take-set-lt, drop-set-lt, take-take}
use Rattle.lists.specs.Lists.{insert}
use Rattle.lists.specs.Span.{span}
use Rattle.lists.specs.Tables.{Holds}
use Rattle.lists.proofs.Insert.{insert_at, insert_place}
use Rattle.lists.proofs.Pushes.{take_push}
use Rattle.lists.proofs.Tables.{holds_as, holds_set, holds_push, length_pad}
use Rattle.lists.proofs.Walks.{rows_from_lem, rows_past}

module _ {A : Type 0} (n : ℕ) (z : A) where
  -- before place i of the m rows in use, with the row x carried: together they are the list ys
  pub record Carried (ys : List A) (m i : ℕ) (rows : List A) (x : A) : Type 0 where
    pub holds : Holds n z (take m rows) rows m
    pub same : take i rows ++ (x ∷ drop i (take m rows)) ≡ ys

  long_rows : {xs rows : List A} {m : ℕ} → Holds n z xs rows m → length rows ≡ n
  long_rows {xs} h = ap length h.rows_are ∙ length_pad n z xs h.room

  pub carry_start : (f : A → A → Bool) {rows : List A} {m p : ℕ} (x : A) → Holds n z (take m rows) rows m → p ≡ span (λ y. not (f x y)) (take m rows) → p ≤ m → Carried (insert f x (take m rows)) m p rows x
  unfolding insert_at
  carry_start f {rows} {m} {p} x h e l = record {
    holds = h;
    same = ap (λ (r : List A). r ++ (x ∷ drop p (take m rows))) (sym (take-take p m rows l)) ∙ ap (λ (k : ℕ). take k (take m rows) ++ (x ∷ drop k (take m rows))) e ∙ sym (insert_place f x (take m rows));
  }

  -- the row carried is stored, and the one that was there is carried on
  pub carry_store : {ys : List A} {m i : ℕ} {rows : List A} {x : A} (d : A) → Carried ys m i rows x → i < m → Carried ys m (i + 1) (set rows i x) (get_or rows i d)
  carry_store {ys} {m} {i} {rows} {x} d c h =
      let y : A = get_or rows i d in
      let size = long_rows c.holds in
      let few : m ≤ length rows = omega (arith, c.holds.count_is, c.holds.room, size) in
      let part : take m (set rows i x) ≡ set (take m rows) i x = take-set-lt m rows i x h in
      record {
        holds = holds_as (sym part) (holds_set i x c.holds h);
        same = ap (λ l. l ++ (y ∷ drop (i + 1) (take m (set rows i x)))) (take_push rows i x (omega arith))
            ∙ append_assoc (take i rows) (x ∷ []) (y ∷ drop (i + 1) (take m (set rows i x)))
            ∙ ap (λ l. take i rows ++ (x ∷ y ∷ l)) (ap (drop (i + 1)) part ∙ drop-set-lt (i + 1) (take m rows) i x (omega arith))
            ∙ ap (λ l. take i rows ++ (x ∷ l)) (sym (rows_from_lem rows m i d h few))
            ∙ c.same;
      }

  -- the row carried goes behind the rows in use
  pub carry_end : {ys : List A} {m i : ℕ} {rows : List A} {x : A} → Carried ys m i rows x → i ≡ m → m < n → Holds n z ys (set rows m x) (m + 1)
  carry_end {m = m} {i} {rows} {x} c e b =
      let size = long_rows c.holds in
      let last : take i rows ++ (x ∷ drop i (take m rows)) ≡ take m rows ++ (x ∷ []) =
      ap (λ l. take i rows ++ (x ∷ l)) (rows_past rows m i (omega arith) (omega arith)) ∙ ap (λ j. take j rows ++ (x ∷ [])) e in
      holds_as (sym last ∙ c.same) (holds_push x c.holds b)
