-- `loose_pads::occurrences` meets its contract: the table tells how often each number occurs among those before the index.
use lib.ListN.{take}
use Rattle.loose_pads.specs.Walking.{Occurrences}
use Rattle.loose_pads.proofs.occurrences.Given as goal

abbrev pub invariant-loop-n : goal.invariant-loop-n
invariant-loop-n l = Occurrences (take l.n-index l.n-items) l.table
