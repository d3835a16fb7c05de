-- Numbers read from an index of some bytes on, by what the code finds there.
use mathlib.Core.Path.{◌≡◌, refl, sym, ap, ◌∙◌}
use mathlib.Core.List.{List, [], ◌∷◌}
use Prim.Native.Nat.{ℕ, zero, suc, ◌+◌, ◌-◌, ◌*◌, ◌%◌, ◌≤◌, ◌<◌}
use native.Mathlib.Numerals.{add-one}
use native.Mathlib.Omega.{arith}
use lib.ListN.{length, get_or, drop, drop_of_length-le}
use lib.Seq.{drop-cons}
use borrow.Author.Tests.{lt-ltb, le-ltb, le-leb, lt-leb, eq-eqb, ne_eqb}
use Rattle.groups.specs.Taken.{took, refused, then, short}
use Rattle.groups.specs.Groups.{above, later_groups, take_number}
use Rattle.groups.proofs.Told.{out}
use Rattle.groups.proofs.Laws.{most_three, later_low}

-- a later number is small
pub is_small : (k n : ℕ) (r s : List ℕ) → took n r ≡ later_groups k s → k ≤ 3 → n ≤ 33554431
is_small k n r s e h = let l = out {a = n} {s = r} (later_low k s) (sym e) in omega (arith, l.low, most_three k h)

-- ---- past the end

later_none : (k : ℕ) → short ≡ later_groups k []
unfolding later_groups
later_none zero = refl
later_none (suc k) = refl

pub later_past : (s : List ℕ) (at k : ℕ) → length s ≤ at → refused 12 ≡ later_groups k (drop at s)
later_past s at k h = later_none k ∙ ap (later_groups k) (sym (drop_of_length-le s h))

pub number_past : (s : List ℕ) (at : ℕ) → length s ≤ at → refused 12 ≡ take_number (drop at s)
unfolding take_number
number_past s at h = ap take_number (sym (drop_of_length-le s h))

-- ---- a byte b at the index

module _ (s : List ℕ) (at b : ℕ) (h : at < length s) (e : b ≡ get_or s at 0) where
  here : drop at s ≡ b ∷ drop (at + 1) s
  here = drop-cons s at 0 h ∙ (λ i. sym e i ∷ drop (sym (add-one at) i) s)

  zero_group : (k : ℕ) → b ≡ 0 → refused 13 ≡ later_groups k (b ∷ drop (at + 1) s)
  unfolding later_groups
  zero_group zero z = rw (eq-eqb b 0 z)
  zero_group (suc k) z = rw (eq-eqb b 0 z)

  pub zero_in : (k : ℕ) → b ≡ 0 → refused 13 ≡ later_groups k (drop at s)
  zero_in k z = zero_group k z ∙ ap (later_groups k) (sym here)

  module _ (some : b ≡ 0 → ⊥) where
    fifth : b ≤ 15 → took b (drop (at + 1) s) ≡ later_groups 0 (b ∷ drop (at + 1) s)
    unfolding later_groups
    fifth l = rw (ne_eqb b 0 some, le-leb b 15 l)

    pub fifth_in : (k : ℕ) → k ≡ 0 → b ≤ 15 → took b (drop (at + 1) s) ≡ later_groups k (drop at s)
    fifth_in k z l = fifth l ∙ (λ i. later_groups (sym z i) (sym here i))

    over : 15 < b → refused 13 ≡ later_groups 0 (b ∷ drop (at + 1) s)
    unfolding later_groups
    over l = rw (ne_eqb b 0 some, lt-leb b 15 l)

    pub over_in : (k : ℕ) → k ≡ 0 → 15 < b → refused 13 ≡ later_groups k (drop at s)
    over_in k z l = over l ∙ (λ i. later_groups (sym z i) (sym here i))

    last : (k : ℕ) → (k ≡ 0 → ⊥) → b < 128 → took b (drop (at + 1) s) ≡ later_groups k (b ∷ drop (at + 1) s)
    unfolding later_groups
    last zero n l = absurd (n refl)
    last (suc k) n l = rw (ne_eqb b 0 some, lt-ltb b 128 l)

    pub last_in : (k : ℕ) → (k ≡ 0 → ⊥) → b < 128 → took b (drop (at + 1) s) ≡ later_groups k (drop at s)
    last_in k n l = last k n l ∙ ap (later_groups k) (sym here)

    more : (k : ℕ) → (k ≡ 0 → ⊥) → 128 ≤ b → above (b % 128) (later_groups (k - 1) (drop (at + 1) s)) ≡ later_groups k (b ∷ drop (at + 1) s)
    unfolding later_groups
    more zero n l = absurd (n refl)
    more (suc k) n l =
        let q : suc k - 1 ≡ k = omega arith in
        rw (ne_eqb b 0 some, le-ltb b 128 l) (ap (λ j. above (b % 128) (later_groups j (drop (at + 1) s))) q)

    pub more_ends : (k r : ℕ) → (k ≡ 0 → ⊥) → 128 ≤ b → refused r ≡ later_groups (k - 1) (drop (at + 1) s) → refused r ≡ later_groups k (drop at s)
    unfolding then
    more_ends k r z l g = ap (above (b % 128)) g ∙ more k z l ∙ ap (later_groups k) (sym here)

    pub more_in : (k n : ℕ) (r : List ℕ) → (k ≡ 0 → ⊥) → 128 ≤ b → took n r ≡ later_groups (k - 1) (drop (at + 1) s) → took (b % 128 + 128 * n) r ≡ later_groups k (drop at s)
    unfolding then
    more_in k n r z l g = ap (above (b % 128)) g ∙ more k z l ∙ ap (later_groups k) (sym here)

  one : b < 128 → took b (drop (at + 1) s) ≡ take_number (b ∷ drop (at + 1) s)
  unfolding take_number
  one l = rw (lt-ltb b 128 l)

  pub one_in : b < 128 → took b (drop (at + 1) s) ≡ take_number (drop at s)
  one_in l = one l ∙ ap take_number (sym here)

  several : 128 ≤ b → above (b % 128) (later_groups 3 (drop (at + 1) s)) ≡ take_number (b ∷ drop (at + 1) s)
  unfolding take_number
  several l = rw (le-ltb b 128 l)

  pub several_end : (r : ℕ) → 128 ≤ b → refused r ≡ later_groups 3 (drop (at + 1) s) → refused r ≡ take_number (drop at s)
  unfolding then
  several_end r l g = ap (above (b % 128)) g ∙ several l ∙ ap take_number (sym here)

  pub several_in : (n : ℕ) (r : List ℕ) → 128 ≤ b → took n r ≡ later_groups 3 (drop (at + 1) s) → took (b % 128 + 128 * n) r ≡ take_number (drop at s)
  unfolding then
  several_in n r l g = ap (above (b % 128)) g ∙ several l ∙ ap take_number (sym here)

-- what `later_groups` finds at an index
pub ruleset later_reads = (later_past, zero_in, fifth_in, over_in, last_in, more_ends, more_in, is_small)

-- what `read_number` finds there
pub ruleset number_reads = (number_past, one_in, several_end, several_in, is_small)
