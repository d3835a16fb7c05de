-- Beside the calls: the program's contract, over all that it read.
use Rattle.std.specs.Prelude.{◌≡◌, false, List, ℕ}
use Rattle.std.specs.List.{flat_map}
use Rattle.streams.specs.Sums.{sum_of}
use Rattle.streams.specs.declared.output.Output.{Output}
use Rattle.shown.specs.Shown.{shown_of}

-- Some files were read. Unless something failed, the bytes handed over, one behind the other, are what is printed of each: their sum is its sum.
pub record Answers (o : Output) : Type 0 where
  pub files : List (List ℕ)
  pub all : o.failed ≡ false → o.sum ≡ sum_of 0 (flat_map shown_of files)
