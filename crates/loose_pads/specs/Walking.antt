-- Below the calls: the loose pads component by component, and the table of how often each net number occurs.
use Rattle.std.specs.Prelude.{ℕ, zero, suc, ◌+◌, ◌<◌, Bool, true, ◌&&◌, cond, List, ◌≡◌, length, get_or}
use Rattle.loose_pads.specs.Counting.{occurs}

-- no number is above 384, which is how many pads a drawing can have
pub record Low (ns : List ℕ) : Type 0 where
  pub low : (i : ℕ) → get_or ns i 0 < 385

-- a table of how often each number up to 384 occurs
pub record Occurrences (ns : List ℕ) (table : List ℕ) : Type 0 where
  pub size : length table ≡ 385
  pub each : (n : ℕ) → n < 385 → get_or table n 0 ≡ occurs n ns

-- a pad counts if it is spare, and so is the other one of the two; one that is neither A nor B, as if it had a spare other one
abbrev pub counts : Bool → Bool → ℕ
counts own other = cond (own && other) 1 0

-- how many pads of a component are loose, by its kind and by which of its pads are spare
abbrev pub loose_part : ℕ → Bool → Bool → Bool → ℕ
loose_part zero n a b = 0
loose_part (suc zero) c a b = counts c true + counts a b + counts b a
loose_part (suc (suc k)) n a b = counts n true
