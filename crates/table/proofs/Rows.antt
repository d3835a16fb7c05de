-- The empty table and one row more, as tables that hold a list.
use Rattle.std.proofs.Common.{ℕ, ◌+◌, ◌≤◌, ◌<◌, ◌≡◌, List, [], ◌∷◌, ◌++◌, length, subst, sym, ◌∙◌, append_assoc, arith}
use Rattle.lists.specs.Tables.{pad, Holds}
use Rattle.lists.proofs.Tables.{holds_push, holds_as}
use Rattle.table.specs.declared.Table.{Table}
use Rattle.table.specs.Tables.{table_of, pushed}

module _ {A : Type 0} {n : ℕ} {z : A} where
  pub table_holds : {xs : List A} {t : Table A n} → length xs ≤ n → t ≡ table_of n z xs → Holds n z xs t.rows t.count
  table_holds {xs} {t} h e = record { rows_are = λ i. (e i).rows; count_is = λ i. (e i).count; room = h }

  pub empty_holds : {t : Table A n} → t ≡ table_of n z [] → Holds n z [] t.rows t.count
  empty_holds e = table_holds (omega arith) e

  pub pushed_holds : {xs : List A} (x : A) {t r : Table A n} → Holds n z xs t.rows t.count → t.count < n → r ≡ pushed x t → Holds n z (xs ++ (x ∷ [])) r.rows r.count
  pushed_holds {xs} x {t} {r} h l e = subst (λ (s : Table A n). Holds n z (xs ++ (x ∷ [])) s.rows s.count) (sym e) (holds_push x h l)

  -- two rows more
  pub pushed_two : {xs : List A} {a b x y : A} {t r q : Table A n} → Holds n z xs t.rows t.count → a ≡ x → b ≡ y → (t.count < n) × (r ≡ pushed a t) → (r.count < n) × (q ≡ pushed b r) → Holds n z (xs ++ (x ∷ y ∷ [])) q.rows q.count
  pushed_two {xs} {a} {b} {x} {y} h e f s t =
      let both : xs ++ (a ∷ []) ++ (b ∷ []) ≡ xs ++ (x ∷ y ∷ []) = append_assoc xs (a ∷ []) (b ∷ []) ∙ (λ i. xs ++ (e i ∷ f i ∷ [])) in
      holds_as both (pushed_holds b (pushed_holds a h s.0 s.1) t.0 t.1)
