-- The program's contract, over all that it read.
use Rattle.std.specs.Prelude.{◌≡◌, false, List, [], ◌++◌, ℕ, ◌<◌, length}
use Rattle.streams.specs.Sums.{sum_of}
use Rattle.streams.specs.declared.output.Output.{Output}
use Rattle.shown.specs.Shown.{shown_of}

-- Some bytes were read: all of the input, or its first 65,536. Unless something failed, the bytes handed over are what is printed of the whole
-- input, whatever stands behind those 65,536: their sum is its sum.
pub record Printed (o : Output) : Type 0 where
  pub input : List ℕ
  pub all : o.failed ≡ false → (behind : List ℕ) → (length input < 65536 → behind ≡ []) → o.sum ≡ sum_of 0 (shown_of (input ++ behind))
