-- A number written is read back, and only a number in its fewest groups is read.
use mathlib.Core.Path.{◌≡◌, refl, sym, ap, ap₂, ◌∙◌}
use mathlib.Core.Bool.{Bool, cond}
use mathlib.Core.Logic.{⊎_elim}
use mathlib.Core.List.Memᴰ.{head as ∈-head}
use mathlib.Core.List.Memᴰ.{tail as ∈-tail}
use mathlib.Core.List.{List, [], ◌∷◌, ◌++◌}
use Prim.Native.Nat.{ℕ, zero, suc, ◌+◌, ◌*◌, ◌/◌, ◌%◌, ◌^◌, ◌≤◌, ◌<◌}
use native.Mathlib.Nat.{pow-suc}
use native.Mathlib.Omega.{arith}
use lib.Dec.{ltb}
use lib.ListN.{length}
use borrow.Author.Tests.{lt-ltb, le-ltb, le-leb, ne_eqb}
use Rattle.lists.proofs.Tests.{Reads, pass, fail, decide, ltb_reads, leb_reads, eqb_reads}
use Rattle.groups.specs.Taken.{Taken, took, then, bad}
use Rattle.groups.specs.Groups.{groups_in, groups_of, above, later_groups, take_number, Bytes}
use Rattle.groups.proofs.Told.{Told, told, not, ends, faulty, told_then}

-- ---- the groups of a number

-- where the number fits, one group more makes no difference
groups_enough : (k n : ℕ) → n < 128 ^ suc k → groups_in k n ≡ groups_in (suc k) n
unfolding groups_in
groups_enough zero n h = rw (lt-ltb n 128 h)
groups_enough (suc k) n h = ap (λ l. cond (ltb n 128) (n ∷ []) ((128 + n % 128) ∷ l)) (groups_enough k (n / 128) (omega (arith, pow-suc 128 (suc k))))

pub groups_one : (n : ℕ) → n < 128 → groups_of n ≡ n ∷ []
unfolding groups_of groups_in
groups_one n h = rw (lt-ltb n 128 h)

pub groups_more : (n : ℕ) → 128 ≤ n → n < 34359738368 → groups_of n ≡ (128 + n % 128) ∷ groups_of (n / 128)
unfolding groups_of groups_in
groups_more n h b = rw (le-ltb n 128 h) (ap (λ l. (128 + n % 128) ∷ l) (groups_enough 3 (n / 128) (omega arith)))

-- ---- what may be written in so many later groups

-- the largest number of k groups and a fifth
abbrev pub most : ℕ → ℕ
most zero = 15
most (suc k) = 127 + 128 * most k

pub most_three : (k : ℕ) → k ≤ 3 → most k ≤ 33554431
most_three zero h = omega arith
most_three (suc zero) h = omega arith
most_three (suc (suc zero)) h = omega arith
most_three (suc (suc (suc zero))) h = omega arith
most_three (suc (suc (suc (suc k)))) h = absurd (omega arith)

-- ---- written, and read back

later_back : (k n : ℕ) (rest : List ℕ) → k ≤ 3 → 0 < n → n ≤ most k → later_groups k (groups_of n ++ rest) ≡ took n rest
unfolding later_groups then
later_back zero n rest f p h = rw (groups_one n (omega arith), ne_eqb n 0 (λ e. omega arith), le-leb n 15 h)
later_back (suc k) n rest few p h = ⊎_elim
    (λ (lt : n < 128). rw (groups_one n lt, ne_eqb n 0 (λ e. omega arith), lt-ltb n 128 lt))
    (λ (f : n < 128 → ⊥).
    let ge : 128 ≤ n = omega (arith, f) in
    let low : ℕ = 128 + n % 128 in
    let ih : later_groups k (groups_of (n / 128) ++ rest) ≡ took (n / 128) rest = later_back k (n / 128) rest (omega arith) (omega arith) (omega arith) in
    let sum : n % 128 + 128 * (n / 128) ≡ n = omega arith in
    rw (groups_more n ge (omega (arith, most_three (suc k) few)), ne_eqb low 0 (λ e. omega arith), le-ltb low 128 (omega arith), ih) (ap (λ m. took m rest) (omega arith)))
    (decide (ltb_reads n 128))

pub number_back : (n : ℕ) (rest : List ℕ) → n < 4294967296 → take_number (groups_of n ++ rest) ≡ took n rest
unfolding take_number then
number_back n rest h = ⊎_elim
    (λ (lt : n < 128). rw (groups_one n lt, lt-ltb n 128 lt))
    (λ (f : n < 128 → ⊥).
    let ge : 128 ≤ n = omega (arith, f) in
    let low : ℕ = 128 + n % 128 in
    rw (groups_more n ge (omega arith), le-ltb low 128 (omega arith), later_back 3 (n / 128) rest (omega arith) (omega arith) (omega arith)) (ap (λ m. took m rest) (omega arith)))
    (decide (ltb_reads n 128))

-- ---- only the fewest groups are read

pub record Later (k : ℕ) (s : List ℕ) (n : ℕ) (rest : List ℕ) : Type 0 where
  pub is : s ≡ groups_of n ++ rest
  pub some : 0 < n
  pub low : n ≤ most k

-- one group
last_group : (k b : ℕ) (s : List ℕ) → b < 128 → 0 < b → b ≤ most k → Later k (b ∷ s) b s
last_group k b s lt p low = record { is = sym (ap (λ l. l ++ s) (groups_one b lt)); some = p; low = low }

-- a group and those above it
group_above : (b m : ℕ) (s r : List ℕ) → 128 ≤ b → b < 256 → 0 < m → m ≤ 33554431 → s ≡ groups_of m ++ r → b ∷ s ≡ groups_of (b % 128 + 128 * m) ++ r
group_above b m s r ge lt p few e =
    let n : ℕ = b % 128 + 128 * m in
    let low : b ≡ 128 + n % 128 = omega arith in
    let high : m ≡ n / 128 = omega arith in
    ap₂ {C = List ℕ} (λ x xs. x ∷ xs) low (e ∙ ap (λ k. groups_of k ++ r) high) ∙ sym (ap (λ l. l ++ r) (groups_more n (omega arith) (omega arith)))

most_low : (k : ℕ) → 15 ≤ most k
most_low zero = omega arith
most_low (suc k) = omega (arith, most_low k)

fifth : (b : ℕ) (s : List ℕ) {p q : Bool} → Reads (b ≡ 0) p → Reads (b ≤ 15) q → Told (Later zero (b ∷ s)) (cond p bad (cond q (took b s) bad))
fifth b s (pass z) q = not faulty
fifth b s (fail z) (pass l) = told (last_group zero b s (omega arith) (omega (arith, z)) l)
fifth b s (fail z) (fail l) = not faulty

later : (k b : ℕ) (s : List ℕ) {p q : Bool} {t : Taken ℕ} → k ≤ 3 → b < 256 → Told (Later k s) t → Reads (b ≡ 0) p → Reads (b < 128) q → Told (Later (suc k) (b ∷ s)) (cond p bad (cond q (took b s) (above (b % 128) t)))
later k b s few byte ih (pass z) q = not faulty
later k b s few byte ih (fail z) (pass l) = told (last_group (suc k) b s l (omega (arith, z)) (omega (arith, most_low k)))
later k b s few byte ih (fail z) (fail l) = told_then ih (λ m r h. told (record {
  is = group_above b m s r (omega (arith, l)) byte h.some (omega (arith, h.low, most_three k few)) h.is;
  some = omega (arith, h.some);
  low = omega (arith, h.low);
}))

later_only : (k : ℕ) (s : List ℕ) → k ≤ 3 → Bytes s → Told (Later k s) (later_groups k s)
unfolding later_groups
later_only zero [] few h = not ends
later_only (suc k) [] few h = not ends
later_only zero (b ∷ s) few h = fifth b s (eqb_reads b 0) (leb_reads b 15)
later_only (suc k) (b ∷ s) few h = later k b s (omega arith) (h b (∈-head refl)) (later_only k s (omega arith) (λ c i. h c (∈-tail i))) (eqb_reads b 0) (ltb_reads b 128)

-- s is what is written of n, which has at most 32 bits, and rest
pub record Number (s : List ℕ) (n : ℕ) (rest : List ℕ) : Type 0 where
  pub is : s ≡ groups_of n ++ rest
  pub low : n < 4294967296

first_group : (b : ℕ) (s : List ℕ) {q : Bool} {t : Taken ℕ} → b < 256 → Told (Later 3 s) t → Reads (b < 128) q → Told (Number (b ∷ s)) (cond q (took b s) (above (b % 128) t))
first_group b s byte ih (pass l) = told (record { is = sym (ap (λ m. m ++ s) (groups_one b l)); low = omega arith })
first_group b s byte ih (fail l) = told_then ih (λ m r h. told (record {
  is = group_above b m s r (omega (arith, l)) byte h.some (omega (arith, h.low)) h.is;
  low = omega (arith, h.low);
}))

pub number_only : (s : List ℕ) → Bytes s → Told (Number s) (take_number s)
unfolding take_number
number_only [] h = not ends
number_only (b ∷ s) h = first_group b s (h b (∈-head refl)) (later_only 3 s (omega arith) (λ c i. h c (∈-tail i))) (ltb_reads b 128)

-- ---- a number in later groups is low, whatever the bytes are

-- n is low
pub record Low (k n : ℕ) : Type 0 where
  pub low : n ≤ most k

fifth_low : (b : ℕ) (s : List ℕ) {p q : Bool} → Reads (b ≡ 0) p → Reads (b ≤ 15) q → Told (λ n rest. Low zero n) (cond p bad (cond q (took b s) bad))
fifth_low b s (pass z) q = not faulty
fifth_low b s (fail z) (pass l) = told (record { low = l })
fifth_low b s (fail z) (fail l) = not faulty

group_low : (k b : ℕ) (s : List ℕ) {p q : Bool} {t : Taken ℕ} → Told (λ n rest. Low k n) t → Reads (b ≡ 0) p → Reads (b < 128) q → Told (λ n rest. Low (suc k) n) (cond p bad (cond q (took b s) (above (b % 128) t)))
group_low k b s ih (pass z) q = not faulty
group_low k b s ih (fail z) (pass l) = told {a = b} (record { low = omega (arith, most_low k) })
group_low k b s ih (fail z) (fail l) = told_then ih (λ m r h. told {a = b % 128 + 128 * m} (record { low = omega (arith, h.low) }))

pub later_low : (k : ℕ) (s : List ℕ) → Told (λ n rest. Low k n) (later_groups k s)
unfolding later_groups
later_low zero [] = not ends
later_low (suc k) [] = not ends
later_low zero (b ∷ s) = fifth_low b s (eqb_reads b 0) (leb_reads b 15)
later_low (suc k) (b ∷ s) = group_low k b s (later_low k s) (eqb_reads b 0) (ltb_reads b 128)

-- ---- how long

pub length_one : (n : ℕ) → n < 128 → length (groups_of n) ≡ 1
length_one n h = ap length (groups_one n h)

pub length_more : (n : ℕ) → 128 ≤ n → n < 34359738368 → length (groups_of n) ≡ suc (length (groups_of (n / 128)))
length_more n h b = ap length (groups_more n h b)

-- a number below 16,384 has at most two groups
pub length_two : (n : ℕ) → n < 16384 → length (groups_of n) ≤ 2
length_two n h = ⊎_elim
    (λ (lt : n < 128). omega (arith, length_one n lt))
    (λ (f : n < 128 → ⊥). omega (arith, length_more n (omega (arith, f)) (omega arith), length_one (n / 128) (omega arith)))
    (decide (ltb_reads n 128))
