-- Below the calls: numbers found by key: points, for "exactly two wire ends in line, without a pad" and for "each point with a wire end or
-- pad once". Those of one key are linked, each to the last one before it. A link is a place plus one, and 0 is the end.
use Rattle.std.specs.Prelude.{ℕ, suc, ◌≤◌, ◌<◌, List, ◌≡◌, eqb, ltb, length, get_or}
use Rattle.std.specs.List.{list_any}

-- following the links from k, place j is met
pub data Met (before : List ℕ) : ℕ → ℕ → Type 0 where
  here : {j : ℕ} → Met before (suc j) j
  later : {i j : ℕ} → Met before (get_or before i 0) j → Met before (suc i) j

-- each number of the list is met from the last place of its key, and links fall
pub record Traced (key : ℕ → ℕ) (cs last before : List ℕ) : Type 0 where
  pub met : (j : ℕ) → j < length cs → Met before (get_or last (key (get_or cs j 0)) 0) j
  pub falls : (j : ℕ) → j < length cs → get_or before j 0 ≤ j
  pub starts : (k : ℕ) → get_or last k 0 ≤ length cs

-- c is at place r of the n numbers, and where it is none of them r is no place
pub record FoundAt (c : ℕ) (cs : List ℕ) (n r : ℕ) : Type 0 where
  pub there : ltb r n ≡ list_any (eqb c) cs
  pub is : r < n → get_or cs r 0 ≡ c
