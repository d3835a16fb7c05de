-- `streams::fill` meets its contract: each read brings at least one byte, and no more than there is room for.
use mathlib.Core.Path.{◌≡◌}
use Prim.Native.Nat.{◌-◌, ◌≤◌}
use lib.ListN.{length, take}
use Rattle.std.specs.Io.KnownBytes.{Consumes}
use Rattle.streams.proofs.fill.Given as goal

abbrev pub invariant-loop-count : goal.invariant-loop-count
invariant-loop-count g l = record {
  within : l.count ≤ length l.buffer;
  long : length l.buffer ≡ length l.initial.buffer;
  taken : Consumes (g.R.Read.remaining l.initial.s.input) (g.R.Read.remaining l.s.input) (take l.count l.buffer);
  output : l.s.output ≡ l.initial.s.output;
}

abbrev pub decreases-loop-count : goal.decreases-loop-count
decreases-loop-count g l = length l.buffer - l.count
