-- Tables: the list that a table holds, a row read, a row stored, a row added, and the zero rows behind.
use Prim.Native.Nat.{ℕ, zero, suc, ◌+◌, ◌-◌, ◌≤◌, ◌<◌}
use native.Mathlib.Nat.{sub-zero, not-suc-le-zero, le_of_suc-le-suc}
use native.Mathlib.Omega.{arith}
use mathlib.Core.Logic.{⊎_elim}
use mathlib.Core.Path.{◌≡◌, refl, sym, ap, ap₂, ◌∙◌, subst}
use mathlib.Core.List.Memᴰ.{head as ∈-head}
use mathlib.Core.List.Memᴰ.{not-nil as ∈-nil}
use mathlib.Core.List.Memᴰ.{tail as ∈-tail}
use mathlib.Core.List.{List, [], ◌∷◌, ◌++◌, map}
use lib.ListN.{length, get_or, take, drop, set, replicate, length-append, length-replicate, take-append-drop, length-drop, length-set, length-map}
use lib.Seq.{get_or-set_same, get_or-set_other, set-append_seam, set-append_left, append_snoc, take-append_seam, drop-append_seam, length-take-le}
use Rattle.lists.specs.Lists.{◌∈◌}
use Rattle.lists.specs.Tables.{pad, Holds}
use Rattle.lists.proofs.Lists.{in_cons}
use Rattle.lists.proofs.Tests.{decide, eqb_reads}

-- what owning an array of structs tells of its length: of a struct's field it stands at a map over the list
pub long : (X Y : Type 0) (f : X → Y) (l : List X) (n : ℕ) → length (map f l) ≡ n → length l ≡ n
long X Y f l n p = sym (length-map l f) ∙ p

module _ {A : Type 0} where
  -- a row in use is among the rows in use
  pub row_in : (rows : List A) (n i : ℕ) (d : A) → i < n → n ≤ length rows → get_or rows i d ∈ take n rows
  row_in rows zero i d h k = absurd (not-suc-le-zero h)
  row_in [] (suc n) i d h k = absurd (not-suc-le-zero k)
  row_in (x ∷ rows) (suc n) zero d h k = ∈-head refl
  row_in (x ∷ rows) (suc n) (suc i) d h k = ∈-tail (row_in rows n i d (le_of_suc-le-suc h) (le_of_suc-le-suc k))

  -- a row that is there does not depend on what is read where there is none
  pub same_row : (rows : List A) (i : ℕ) (d e : A) → i < length rows → get_or rows i d ≡ get_or rows i e
  same_row [] i d e h = absurd (not-suc-le-zero h)
  same_row (x ∷ rows) zero d e h = refl
  same_row (x ∷ rows) (suc i) d e h = same_row rows i d e (le_of_suc-le-suc h)

  -- a row stored, as it tells at another place or at its own
  pub set_tells : (P : ℕ → A → Type 0) (rows : List A) (i : ℕ) (x d : A) → i < length rows → P i x → ((j : ℕ) → (j ≡ i → ⊥) → P j (get_or rows j d)) → (j : ℕ) → P j (get_or (set rows i x) j d)
  set_tells P rows i x d h p q j = ⊎_elim
      (λ (e : j ≡ i). rw (e, get_or-set_same rows i x d h) p)
      (λ (n : j ≡ i → ⊥). rw (get_or-set_other rows i j x d n) (q j n))
      (decide (eqb_reads j i))

  -- ---- a table and its list

  pub length_snoc : (xs : List A) (x : A) → length (xs ++ (x ∷ [])) ≡ length xs + 1
  length_snoc xs x = length-append xs (x ∷ [])

  pub length_pad : (n : ℕ) (z : A) (xs : List A) → length xs ≤ n → length (pad n z xs) ≡ n
  unfolding pad
  length_pad n z xs h = simp (length-append, length-replicate) (omega arith)

  -- the list that a table holds
  pub holds_list : {n : ℕ} {z : A} {xs rows : List A} {count : ℕ} → Holds n z xs rows count → take count rows ≡ xs
  unfolding pad
  holds_list {n} {z} {xs} h = rw (h.rows_are, h.count_is) (take-append_seam xs (replicate (n - length xs) z))

  -- the same table, where the list is known by another name
  pub holds_as : {n : ℕ} {z : A} {xs ys rows : List A} {count : ℕ} → xs ≡ ys → Holds n z xs rows count → Holds n z ys rows count
  holds_as {n} {z} {rows = rows} {count} e h = subst (λ (l : List A). Holds n z l rows count) e h

  -- a table that holds some list holds the rows in use
  pub holds_self : {n : ℕ} {z : A} {xs rows : List A} {count : ℕ} → Holds n z xs rows count → Holds n z (take count rows) rows count
  holds_self h = holds_as (sym (holds_list h)) h

  pub holds_count : {n : ℕ} {z : A} {xs rows : List A} {count : ℕ} → Holds n z xs rows count → count ≤ n
  holds_count h = let a = h.count_is in let b = h.room in omega arith

  -- two tables that hold one list are one table
  pub holds_same : {n : ℕ} {z : A} {xs r s : List A} {c d : ℕ} → Holds n z xs r c → Holds n z xs s d → (r ≡ s) × (c ≡ d)
  holds_same h k = (h.rows_are ∙ sym k.rows_are, h.count_is ∙ sym k.count_is)

  -- ---- rows stored

  pub holds_none : (n : ℕ) (z : A) → Holds n z [] (replicate n z) 0
  unfolding pad
  holds_none n z = record { rows_are = rw sub-zero; count_is = refl; room = omega arith }

  pad_push : (n : ℕ) (z : A) (xs : List A) (x : A) → length xs < n → set (pad n z xs) (length xs) x ≡ pad n z (xs ++ (x ∷ []))
  unfolding pad
  pad_push n z xs x h =
      ap (λ (k : ℕ). set (xs ++ replicate k z) (length xs) x) less
      ∙ set-append_seam xs z (replicate (n - (length xs + 1)) z) x
      ∙ sym (append_snoc xs x (replicate (n - (length xs + 1)) z))
      ∙ ap (λ (k : ℕ). xs ++ (x ∷ []) ++ replicate (n - k) z) (sym (length_snoc xs x))
    where
      less : n - length xs ≡ suc (n - (length xs + 1))
      less = omega arith

  -- one row more
  pub holds_push : {n : ℕ} {z : A} {xs rows : List A} {count : ℕ} (x : A) → Holds n z xs rows count → count < n → Holds n z (xs ++ (x ∷ [])) (set rows count x) (count + 1)
  holds_push {n} {z} {xs} {rows} {count} x h b =
      let lt : length xs < n = omega arith in
      record {
        rows_are = rw (h.rows_are, h.count_is) (pad_push n z xs x lt);
        count_is = ap (λ (k : ℕ). k + 1) h.count_is ∙ sym (length_snoc xs x);
        room = simp length_snoc (omega arith);
      }

  -- a row of those in use is replaced
  pub holds_set : {n : ℕ} {z : A} {xs rows : List A} {count : ℕ} (k : ℕ) (x : A) → Holds n z xs rows count → k < count → Holds n z (set xs k x) (set rows k x) count
  unfolding pad
  holds_set {n} {z} {xs} {rows} {count} k x h b =
      let lt : k < length xs = omega arith in
      let same = length-set xs k x in
      record {
        rows_are = ap (λ (r : List A). set r k x) h.rows_are ∙ set-append_left xs (replicate (n - length xs) z) k x lt
            ∙ ap (λ (j : ℕ). set xs k x ++ replicate (n - j) z) (sym same);
        count_is = omega arith;
        room = omega arith;
      }

  -- ---- zero rows behind

  pub all_zero : (z : A) (xs : List A) → ((x : A) → x ∈ xs → x ≡ z) → xs ≡ replicate (length xs) z
  all_zero z [] h = refl
  all_zero z (x ∷ xs) h = ap₂ {C = List A} (λ y ys. y ∷ ys) (h x (∈-head refl)) (all_zero z xs (λ y m. h y (∈-tail m)))

  pub zeros_only : (z : A) (k : ℕ) {x : A} → x ∈ replicate k z → x ≡ z
  zeros_only z zero m = absurd (∈-nil m)
  zeros_only z (suc k) m = in_cons (λ x. x ≡ z) refl (λ x n. zeros_only z k n) m

  zeros_read : (z : A) (k i : ℕ) → get_or (replicate k z) i z ≡ z
  zeros_read z zero i = refl
  zeros_read z (suc k) zero = refl
  zeros_read z (suc k) (suc i) = zeros_read z k i

  -- zeros behind a list change nothing that is read
  pub get_d_pad : (n : ℕ) (z : A) (xs : List A) (i : ℕ) → get_or (pad n z xs) i z ≡ get_or xs i z
  unfolding pad
  get_d_pad n z xs i = behind xs (n - length xs) i
    where
      behind : (ys : List A) (k i : ℕ) → get_or (ys ++ replicate k z) i z ≡ get_or ys i z
      behind [] k i = zeros_read z k i
      behind (y ∷ ys) k zero = refl
      behind (y ∷ ys) k (suc i) = behind ys k i

  -- n rows, all zero from the count on
  pub blank_holds : {n : ℕ} {z : A} {rows : List A} {count : ℕ} → length rows ≡ n → count ≤ n → ((x : A) → x ∈ drop count rows → x ≡ z) → Holds n z (take count rows) rows count
  unfolding pad
  blank_holds {n} {z} {rows} {count} e k h =
      let size : length (take count rows) ≡ count = length-take-le count rows (omega arith) in
      let behind : length (drop count rows) ≡ n - length (take count rows) = simp length-drop (omega arith) in
      record {
        rows_are = sym (take-append-drop count rows) ∙ ap (λ (r : List A). take count rows ++ r) (all_zero z (drop count rows) h ∙ ap (λ (j : ℕ). replicate j z) behind);
        count_is = sym size;
        room = omega arith;
      }

  pub holds_blank : {n : ℕ} {z : A} {xs rows : List A} {count : ℕ} → Holds n z xs rows count → (x : A) → x ∈ drop count rows → x ≡ z
  unfolding pad
  holds_blank {n} {z} {xs} {rows} {count} h x m =
      let e : drop count rows ≡ replicate (n - length xs) z = rw (h.rows_are, h.count_is) (drop-append_seam xs (replicate (n - length xs) z)) in
      zeros_only z (n - length xs) (subst (λ (l : List A). x ∈ l) e m)
