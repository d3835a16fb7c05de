-- `take_chunk` meets its contract: at each turn, what is left to run is the whole run.
use mathlib.Core.Path.{◌≡◌}
use Prim.Native.Nat.{◌-◌}
use lib.ListN.{length}
use Rattle.sheet.specs.Rules.{Lawful}
use Rattle.lines.proofs.Running.{Running}
use Rattle.panel_save.specs.Taking.{take_line}
use Rattle.panel_save.proofs.take_chunk.Given as goal

abbrev pub invariant-loop-at : goal.invariant-loop-at
invariant-loop-at g l =
    Running take_line l.chunk l.initial.held l.initial.count l.initial.state l.held l.at l.count l.state × Lawful l.state.drawing × (length l.out ≡ length l.initial.out)

abbrev pub decreases-loop-at : goal.decreases-loop-at
decreases-loop-at g l = length l.chunk - l.at
