-- `panel_rows::answer_chunk` meets its contract: at each turn, what is left to run is the whole run.
use mathlib.Core.Path.{◌≡◌}
use Prim.Native.Nat.{◌-◌}
use lib.ListN.{length}
use Rattle.sheet.specs.Rules.{Lawful}
use Rattle.lines.proofs.Running.{Running}
use Rattle.step.specs.Scripts.{redrawn}
use Rattle.panel_rows.proofs.answer_chunk.Given as goal

abbrev pub invariant-loop-at : goal.invariant-loop-at
invariant-loop-at g l = Running redrawn l.chunk l.initial.held l.begun l.initial.d l.held l.at l.count l.d × Lawful l.d × (length l.out ≡ length l.initial.out)

abbrev pub decreases-loop-at : goal.decreases-loop-at
decreases-loop-at g l = length l.chunk - l.at
