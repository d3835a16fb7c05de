-- What is told of a line: its number, and nothing or a line that was made in a buffer of its own.
use mathlib.Core.Path.{◌≡◌, ap, ◌∙◌}
use mathlib.Core.List.{List, ◌++◌}
use Prim.Native.Nat.{ℕ, ◌+◌, ◌<◌, ◌≤◌}
use native.Mathlib.Omega.{arith}
use lib.ListN.{length, take, drop}
use lib.Seq.{take_at}
use borrow.Author.Tests.{lt-ltb, le-ltb, eq-eqb, ne_eqb}
use Rattle.text.specs.Text.{Put, decimal_of}
use Rattle.text.proofs.Puts.{put_whole}
use Rattle.script.specs.Grammar.{bytes}
use Rattle.telling.specs.Told.{numbered}
use Rattle.streams.specs.Sums.{sum_of}
use Rattle.panel_save.specs.Saving.{next_line, refusal_of}

pub next_more : (n : ℕ) → n < 4294967295 → n + 1 ≡ next_line n
unfolding next_line
next_more n h = rw (lt-ltb n 4294967295 h)

pub next_most : (n : ℕ) → 4294967295 ≤ n → n ≡ next_line n
unfolding next_line
next_most n h = rw (le-ltb n 4294967295 h)

pub not_told : {told : ℕ} (n reply : ℕ) → reply ≡ 0 → told ≡ sum_of told (refusal_of n reply)
unfolding refusal_of sum_of
not_told n reply e = rw (eq-eqb reply 0 e)

pub told_line : (n reply : ℕ) → (reply ≡ 0 → ⊥) → bytes "line " ++ (decimal_of n ++ (bytes ": A " ++ (decimal_of reply ++ bytes "\n"))) ≡ refusal_of n reply
unfolding refusal_of numbered
told_line n reply f = rw (ne_eqb reply 0 f)

-- ---- in a buffer of 40 bytes

module _ {own bs new : List ℕ} {k : ℕ} (p : Put own 0 bs new k) (few : k ≤ 40) (forty : length own ≡ 40) where
  pub line_is : take k new ≡ bs
  line_is = ap (take k) (put_whole p (omega (arith, forty))) ∙ take_at bs (drop k own) k (omega (arith, p.behind))
