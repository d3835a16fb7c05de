-- `take_chunk` meets its contract: at each turn, what is left to run is the whole run.
use mathlib.Core.Path.{◌≡◌}
use Prim.Native.Nat.{◌-◌}
use lib.ListN.{length}
use Rattle.panel_check.proofs.Going.{Going}
use Rattle.panel_check.proofs.take_chunk.Given as goal

abbrev pub invariant-loop-at : goal.invariant-loop-at
invariant-loop-at g l = Going l.chunk l.initial.held l.begun l.initial.r l.initial.out l.held l.at l.count l.r l.out × (length l.out ≡ length l.initial.out)

abbrev pub decreases-loop-at : goal.decreases-loop-at
decreases-loop-at g l = length l.chunk - l.at
