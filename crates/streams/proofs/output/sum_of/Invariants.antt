-- The sum so far, and the bytes still to come.
use Rattle.std.proofs.Common.{◌≡◌, drop}
use Rattle.streams.specs.Sums.{sum_of}
use Rattle.streams.proofs.output.sum_of.Given as goal

abbrev pub invariant-loop-b : goal.invariant-loop-b
invariant-loop-b l = sum_of l.s (drop l.b-index l.block) ≡ sum_of l.sum l.block
