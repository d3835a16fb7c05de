-- The groups of a number, cut short: a byte is still due.
use mathlib.Core.Path.{◌≡◌, refl, ap, ◌∙◌}
use mathlib.Core.Logic.{⊎_elim}
use mathlib.Core.List.{[]}
use Prim.Native.Nat.{ℕ, zero, suc, ◌+◌, ◌/◌, ◌%◌, ◌≤◌, ◌<◌}
use native.Mathlib.Omega.{arith}
use lib.ListN.{length, take}
use borrow.Author.Tests.{le-ltb, ne_eqb}
use Rattle.lists.proofs.Tests.{decide, ltb_reads}
use Rattle.groups.specs.Taken.{then, short}
use Rattle.groups.specs.Groups.{groups_of, later_groups, take_number}
use Rattle.groups.proofs.Laws.{groups_more, length_one, length_more, most, most_three}

-- of one group nothing is left
one_cut : (n k : ℕ) → n < 128 → k < length (groups_of n) → take k (groups_of n) ≡ []
one_cut n k low h = let z : k ≡ 0 = omega (arith, length_one n low) in ap (λ j. take j (groups_of n)) z

nothing_later : (k : ℕ) → later_groups k [] ≡ short
unfolding later_groups
nothing_later zero = refl
nothing_later (suc k) = refl

-- of several, nothing or the lowest and some of those above it
several_later : (i n j : ℕ) → 128 ≤ n → n < 34359738368 → j < length (groups_of n) → ((k : ℕ) → k < length (groups_of (n / 128)) → later_groups i (take k (groups_of (n / 128))) ≡ short) → later_groups (suc i) (take j (groups_of n)) ≡ short
unfolding later_groups then
several_later i n zero ge fits h ih = refl
several_later i n (suc j) ge fits h ih =
    let low : ℕ = 128 + n % 128 in
    rw (groups_more n ge fits, ne_eqb low 0 (λ e. omega arith), le-ltb low 128 (omega arith), ih j (omega (arith, length_more n ge fits))) refl

later_cut : (i n : ℕ) → i ≤ 3 → n ≤ most i → (k : ℕ) → k < length (groups_of n) → later_groups i (take k (groups_of n)) ≡ short
later_cut zero n few h k c = ap (later_groups zero) (one_cut n k (omega arith) c) ∙ nothing_later zero
later_cut (suc i) n few h k c = ⊎_elim
    (λ (lt : n < 128). ap (later_groups (suc i)) (one_cut n k lt c) ∙ nothing_later (suc i))
    (λ (f : n < 128 → ⊥). several_later i n k (omega (arith, f)) (omega (arith, most_three (suc i) few)) c (later_cut i (n / 128) (omega arith) (omega arith)))
    (decide (ltb_reads n 128))

several_cut : (n j : ℕ) → 128 ≤ n → n < 4294967296 → j < length (groups_of n) → take_number (take j (groups_of n)) ≡ short
unfolding take_number then
several_cut n zero ge fits h = refl
several_cut n (suc j) ge fits h =
    let low : ℕ = 128 + n % 128 in
    rw (groups_more n ge (omega arith), le-ltb low 128 (omega arith), later_cut 3 (n / 128) (omega arith) (omega arith) j (omega (arith, length_more n ge (omega arith)))) refl

-- a number of at most 32 bits, cut short
pub number_cut : (n : ℕ) → n < 4294967296 → (k : ℕ) → k < length (groups_of n) → take_number (take k (groups_of n)) ≡ short
unfolding take_number
number_cut n fits k c = ⊎_elim
    (λ (lt : n < 128). ap take_number (one_cut n k lt c))
    (λ (f : n < 128 → ⊥). several_cut n k (omega (arith, f)) fits c)
    (decide (ltb_reads n 128))
