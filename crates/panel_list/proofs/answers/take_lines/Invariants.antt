-- `take_lines` meets its contract: at each turn, what is left to run is the whole run.
use mathlib.Core.Path.{◌≡◌}
use Prim.Native.Nat.{◌-◌}
use lib.ListN.{length}
use Rattle.panel_list.proofs.Going.{Going}
use Rattle.panel_list.proofs.answers.take_lines.Given as goal

abbrev pub invariant-loop-at : goal.invariant-loop-at
invariant-loop-at l =
    Going l.chunk l.initial.held l.begun l.initial.drawing l.held l.at l.count l.drawing l.used l.out × (length l.out ≡ length l.initial.out)

abbrev pub decreases-loop-at : goal.decreases-loop-at
decreases-loop-at l = length l.chunk - l.at
