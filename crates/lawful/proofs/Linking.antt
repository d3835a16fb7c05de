-- Joint rows linked by column, from the last to the first.
use Prim.Native.Nat.{ℕ, ◌+◌, ◌≤◌, ◌<◌}
use native.Mathlib.Omega.{arith}
use mathlib.Core.List.{List}
use mathlib.Core.Path.{◌≡◌, refl, sym, ap, ◌∙◌}
use mathlib.Core.Logic.{⊎_elim}
use lib.ListN.{length, get_or, set}
use lib.Seq.{get_or-set_same, get_or-set_other}
use Rattle.lists.proofs.Tests.{decide, choose, eqb_reads, ltb_reads}
use Rattle.sheet.specs.declared.Joint.{Joint}
use Rattle.sheet.specs.Drawings.{zero_joint}
use Rattle.lawful.specs.Looks.{column_of, next_row, Chained}

pub column_in : (x : ℕ) → x < 12001 → x ≡ column_of x
unfolding column_of
column_in x h = choose (ltb_reads x 12001) (λ (r : ℕ). x ≡ r) (λ p. refl) (λ n. absurd (n h))

pub column_out : (x : ℕ) → (x < 12001 → ⊥) → 0 ≡ column_of x
unfolding column_of
column_out x f = choose (ltb_reads x 12001) (λ (r : ℕ). 0 ≡ r) (λ p. absurd (f p)) (λ n. refl)

pub next_in : (next : List ℕ) (n k : ℕ) → k < n → get_or next k 0 ≡ next_row next n k
unfolding next_row
next_in next n k h = choose (ltb_reads k n) (λ (r : ℕ). get_or next k 0 ≡ r) (λ p. refl) (λ m. absurd (m h))

pub next_out : (next : List ℕ) (n k : ℕ) → (k < n → ⊥) → n ≡ next_row next n k
unfolding next_row
next_out next n k f = choose (ltb_reads k n) (λ (r : ℕ). n ≡ r) (λ p. absurd (f p)) (λ m. refl)

-- only a row among the n rows has a next one below n
pub next_below : (next : List ℕ) (n k : ℕ) {r : ℕ} → r ≡ next_row next n k → r < n → (k < n) × (r ≡ get_or next k 0)
next_below next n k {r} e h = ⊎_elim
    (λ (g : k < n). (g, e ∙ sym (next_in next n k g)))
    (λ (g : k < n → ⊥). absurd (omega (arith, next_out next n k g)))
    (decide (ltb_reads k n))

-- the column of row q
abbrev col : List Joint → ℕ → ℕ
col l q = column_of (get_or l q zero_joint).x

-- the rows from i on are linked
pub record Linking (l : List Joint) (n i : ℕ) (first next : List ℕ) : Type 0 where
  pub firsts : (c q : ℕ) → i ≤ q → q < n → q < get_or first c 0 → col l q ≡ c → ⊥
  pub nexts : (k q : ℕ) → i ≤ k → k < q → q < n → q < get_or next k 0 → col l k ≡ col l q → ⊥

pub linking_start : (l : List Joint) (n : ℕ) (first next : List ℕ) → Linking l n n first next
linking_start l n first next = record { firsts = λ c q a b. absurd (omega arith); nexts = λ k q a g h. absurd (omega arith) }

pub linking_next : {l : List Joint} {n i : ℕ} {first next : List ℕ} (m c : ℕ) → Linking l n i first next → i ≡ m + 1 → c ≡ col l m → c < length first → m < length next → Linking l n m (set first c m) (set next m (get_or first c 0))
linking_next {l} {n} {i} {first} {next} m c s e f h g = record { firsts = firsts; nexts = nexts }
  where
    firsts : (d q : ℕ) → m ≤ q → q < n → q < get_or (set first c m) d 0 → col l q ≡ d → ⊥
    firsts d q a b k w = ⊎_elim
        (λ (z : d ≡ c). let t : get_or (set first c m) d 0 ≡ m = ap (λ (x : ℕ). get_or (set first c m) x 0) z ∙ get_or-set_same first c m 0 h in omega arith)
        (λ (z : d ≡ c → ⊥). let t : get_or (set first c m) d 0 ≡ get_or first d 0 = get_or-set_other first c d m 0 z in
        ⊎_elim
        (λ (y : m ≡ q). z (sym w ∙ ap (col l) (sym y) ∙ sym f))
        (λ (y : m ≡ q → ⊥). s.firsts d q (omega arith) b (omega arith) w)
        (decide (eqb_reads m q)))
        (decide (eqb_reads d c))

    nexts : (k q : ℕ) → m ≤ k → k < q → q < n → q < get_or (set next m (get_or first c 0)) k 0 → col l k ≡ col l q → ⊥
    nexts k q a b d t w = ⊎_elim
        (λ (z : k ≡ m). let u : get_or (set next m (get_or first c 0)) k 0 ≡ get_or first c 0 = ap (λ (x : ℕ). get_or (set next m (get_or first c 0)) x 0) z ∙ get_or-set_same next m (get_or first c 0) 0 g in
        s.firsts c q (omega arith) d (omega arith) (sym w ∙ ap (col l) z ∙ sym f))
        (λ (z : k ≡ m → ⊥). let u : get_or (set next m (get_or first c 0)) k 0 ≡ get_or next k 0 = get_or-set_other next m k (get_or first c 0) 0 z in
        s.nexts k q (omega arith) b d (omega arith) w)
        (decide (eqb_reads k m))

pub linking_end : {l : List Joint} {n i : ℕ} {first next : List ℕ} → Linking l n i first next → i ≡ 0 → Chained l n next
linking_end s e = record { none = λ k q g h t w. s.nexts k q (omega arith) g h t (ap column_of w) }
