-- Bytes put into a buffer, one run behind the other; what a loop has still to put; what a whole run leaves in a buffer that holds it.
use mathlib.Core.Path.{◌≡◌, sym, ap, ap₂, subst, ◌∙◌}
use mathlib.Core.List.{List, [], ◌∷◌, ◌++◌}
use Prim.Native.Nat.{ℕ, suc, ◌+◌, ◌≤◌}
use native.Mathlib.Nat.{add-zero}
use native.Mathlib.Omega.{arith}
use lib.ListN.{length, take, drop, set, length-append}
use lib.Seq.{sets, sets-eq, length-sets}
use Rattle.text.specs.Text.{Put}

sets_append : (l : List ℕ) (i : ℕ) (xs ys : List ℕ) → sets l i (xs ++ ys) ≡ sets (sets l i xs) (i + length xs) ys
sets_append l i [] ys = ap (λ k. sets l k ys) (sym (add-zero i))
sets_append l i (a ∷ xs) ys = sets_append (set l i a) (suc i) xs ys ∙ ap (λ k. sets (sets (set l i a) (suc i) xs) k ys) (omega arith)

-- ---- one run behind the other

pub put_then : {a b c xs ys : List ℕ} {i j k : ℕ} → Put a i xs b j → Put b j ys c k → Put a i (xs ++ ys) c k
put_then {a} {b} {c} {xs} {ys} {i} {j} {k} p q = record {
  bytes = q.bytes ∙ ap₂ (λ d n. sets d n ys) p.bytes p.behind ∙ sym (sets_append a i xs ys);
  behind = omega (arith, p.behind, q.behind, length-append xs ys);
}

pub put_as : {a b xs ys : List ℕ} {i j : ℕ} → xs ≡ ys → Put a i xs b j → Put a i ys b j
put_as {a} {b} {xs} {ys} {i} {j} e p = record { bytes = p.bytes ∙ ap (sets a i) e; behind = omega (arith, p.behind, ap length e) }

pub put_none : {bs : List ℕ} (d : List ℕ) (i : ℕ) → bs ≡ [] → Put d i bs d i
put_none {bs} d i e = record { bytes = ap (sets d i) (sym e); behind = omega (arith, ap length e) }

-- ---- a loop that puts: `rest` put into `new` from `next` on is all that is left of putting `bs` into `old` from `at` on

pub record Todo (new : List ℕ) (next : ℕ) (rest old : List ℕ) (at : ℕ) (bs : List ℕ) : Type 0 where
  pub bytes : sets new next rest ≡ sets old at bs
  pub behind : next + length rest ≡ at + length bs

pub todo_step : {new new' rest xs ys old bs : List ℕ} {next next' at : ℕ} → Todo new next rest old at bs → rest ≡ xs ++ ys → Put new next xs new' next' → Todo new' next' ys old at bs
todo_step {new} {new'} {rest} {xs} {ys} {old} {bs} {next} {next'} {at} t e p = record {
  bytes = ap₂ (λ d n. sets d n ys) p.bytes p.behind ∙ sym (sets_append new next xs ys) ∙ ap (sets new next) (sym e) ∙ t.bytes;
  behind = omega (arith, p.behind, t.behind, length-append xs ys, ap length e);
}

pub todo_as : {new rest ys old bs : List ℕ} {next at : ℕ} → Todo new next rest old at bs → rest ≡ ys → Todo new next ys old at bs
todo_as {new} {old = old} {bs} {next} {at} t e = subst (λ l. Todo new next l old at bs) e t

pub todo_done : {new rest old bs : List ℕ} {next at : ℕ} → Todo new next rest old at bs → rest ≡ [] → Put old at bs new next
todo_done {new} {rest} {old} {bs} {next} {at} t e = record {
  bytes = ap (sets new next) (sym e) ∙ t.bytes;
  behind = omega (arith, t.behind, ap length e);
}

-- ---- the buffer afterwards

pub put_length : {old bs new : List ℕ} {at next : ℕ} → Put old at bs new next → length new ≡ length old
put_length {old} {bs} {new} {at} p = ap length p.bytes ∙ length-sets old at bs

-- where the bytes fit, they stand at their place, and those before and behind are as they were
pub put_fits : {old bs new : List ℕ} {at next : ℕ} → Put old at bs new next → next ≤ length old → new ≡ take at old ++ bs ++ drop next old
put_fits {old} {bs} {new} {at} p h = p.bytes ∙ sets-eq bs old at (omega (arith, p.behind)) ∙ ap (λ n. take at old ++ bs ++ drop n old) (sym p.behind)

pub put_whole : {old bs new : List ℕ} {next : ℕ} → Put old 0 bs new next → next ≤ length old → new ≡ bs ++ drop next old
put_whole p h = put_fits p h
