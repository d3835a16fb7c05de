-- Rows put behind those of a table, one after another.
use Rattle.std.proofs.Common.{ℕ, ◌+◌, ◌≤◌, ◌<◌, ◌≡◌, ◌∙◌, List, [], ◌∷◌, ◌++◌, length, take, get_or, sym, ap, subst, append-nil, append_assoc, arith}
use lib.Seq.{take_all, length-take-le}
use Rattle.lists.specs.Tables.{Holds}
use Rattle.lists.proofs.Tables.{holds_as}
use Rattle.lists.proofs.Passes.{take_more}
use Rattle.table.specs.declared.Table.{Table}
use Rattle.table.specs.Tables.{pushed, Extends}
use Rattle.table.proofs.Rows.{pushed_holds}

module _ {A : Type 0} {n : ℕ} where
  pub extends_none : (t : Table A n) → Extends [] t t
  extends_none t = record { so = λ z xs h. holds_as (sym (append-nil xs)) h; count_is = omega arith }

  pub extends_next : (rows : List A) {i : ℕ} {t r q : Table A n} (x : A) → x ≡ get_or rows i x → Extends (take i rows) t r → r.count < n → q ≡ pushed x r → i < length rows → Extends (take (i + 1) rows) t q
  extends_next rows {i} {t} {r} {q} x is e l p h =
      let more : take (i + 1) rows ≡ take i rows ++ (x ∷ []) = take_more rows i x h ∙ ap (λ (y : A). take i rows ++ (y ∷ [])) (sym is) in
      record {
        so = λ z xs k. holds_as (append_assoc xs (take i rows) (x ∷ []) ∙ ap (λ (m : List A). xs ++ m) (sym more)) (pushed_holds x (e.so z xs k) l p);
        count_is = omega (arith, ap (λ (s : Table A n). s.count) p, e.count_is, length-take-le i rows (omega arith), length-take-le (i + 1) rows (omega arith));
      }

  pub extends_all : {rows : List A} {i : ℕ} {t r : Table A n} → Extends (take i rows) t r → length rows ≤ i → Extends rows t r
  extends_all {rows} {i} {t} {r} e h = subst (λ (l : List A). Extends l t r) (take_all i rows h) e
