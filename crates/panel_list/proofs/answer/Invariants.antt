-- `panel_list::answer` meets its contract: part by part, what is left of the chunk is the whole, and what was printed is handed over.
use mathlib.Core.Path.{◌≡◌}
use Prim.Native.Nat.{◌-◌}
use lib.ListN.{length}
use Rattle.panel_list.proofs.Chunked.{Chunked}
use Rattle.panel_list.proofs.answer.Given as goal

abbrev pub invariant-loop-at : goal.invariant-loop-at
invariant-loop-at g l =
    Chunked l.chunk l.initial.held l.initial.drawing l.begun l.before l.held l.at l.count l.drawing l.sum × (length l.held ≡ length l.initial.held) × (length l.out ≡ length l.initial.out)

abbrev pub decreases-loop-at : goal.decreases-loop-at
decreases-loop-at g l = length l.chunk - l.at
