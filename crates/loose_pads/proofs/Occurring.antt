-- The table of how often each number occurs: one number more.
use Prim.Native.Nat.{ℕ, ◌+◌, ◌≤◌, ◌<◌}
use native.Mathlib.Omega.{arith}
use mathlib.Core.Bool.{Bool, not, ◌&&◌}
use mathlib.Core.List.{List, [], ◌∷◌}
use mathlib.Core.Path.{◌≡◌, sym, ap, ◌∙◌}
use lib.Dec.{eqb}
use lib.ListN.{length, take, get_or, set, replicate, length-replicate, get_or-replicate, length-set, length-take, length-append}
use Rattle.std.specs.List.{filter}
use Rattle.lists.proofs.Appends.{keep_append, length_keep}
use Rattle.lists.proofs.Passes.{take_more}
use Rattle.lists.proofs.Tables.{set_tells}
use Rattle.loose_pads.specs.Counting.{occurs, spare}
use Rattle.loose_pads.specs.Walking.{Low, Occurrences}
use Rattle.loose_pads.proofs.Single.{occurs_here, occurs_on, occurs_none}

occurs_more : (n : ℕ) (ns : List ℕ) (i : ℕ) → i < length ns → occurs n (take (i + 1) ns) ≡ occurs n (take i ns) + occurs n (get_or ns i 0 ∷ [])
unfolding occurs
occurs_more n ns i h = ap (occurs n) (take_more ns i 0 h) ∙ ap length (keep_append (eqb n) (take i ns) (get_or ns i 0 ∷ [])) ∙ length-append (filter (eqb n) (take i ns)) (filter (eqb n) (get_or ns i 0 ∷ []))

pub table_none : Occurrences [] (replicate 385 0)
table_none = record { size = length-replicate {A = ℕ} 385 0; each = λ n h. get_or-replicate {A = ℕ} 385 n 0 0 h ∙ sym (occurs_none n) }

pub table_few : (ns : List ℕ) {table : List ℕ} (i n : ℕ) → Occurrences (take i ns) table → n < 385 → get_or table n 0 ≤ i
unfolding occurs
table_few ns {table} i n t h = omega (arith, t.each n h, length_keep (eqb n) (take i ns), length-take i ns)

pub table_next : (ns : List ℕ) {table : List ℕ} (i : ℕ) {n : ℕ} → Occurrences (take i ns) table → n ≡ get_or ns i 0 → n < 385 → i < length ns → Occurrences (take (i + 1) ns) (set table n (get_or table n 0 + 1))
table_next ns {table} i {n} t e b h = record {
  size = length-set table n (get_or table n 0 + 1) ∙ t.size;
  each = set_tells (λ m k. m < 385 → k ≡ occurs m (take (i + 1) ns)) table n (get_or table n 0 + 1) 0 (omega (arith, t.size))
      (λ _. omega (arith, t.each n b, occurs_more n ns i h, occurs_here n (get_or ns i 0) [] e, occurs_none n))
      (λ m f k. omega (arith, t.each m k, occurs_more m ns i h, occurs_on m (get_or ns i 0) [] (λ p. f (p ∙ sym e)), occurs_none m));
}

-- what the table tells of a pad's number
pub table_spare : {ns table : List ℕ} → Occurrences ns table → Low ns → (i : ℕ) {r : Bool} → r ≡ not (eqb (get_or ns i 0) 0) && eqb (get_or table (get_or ns i 0) 0) 1 → r ≡ spare ns i
unfolding spare
table_spare {ns} t l i e = e ∙ ap (λ m. not (eqb (get_or ns i 0) 0) && eqb m 1) (t.each (get_or ns i 0) (l.low i))
