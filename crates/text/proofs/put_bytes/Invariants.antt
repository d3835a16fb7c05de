-- `text::put_bytes` meets its contract: what is left to put is the bytes from the index on.
use lib.ListN.{drop}
use Rattle.text.proofs.Puts.{Todo}
use Rattle.text.proofs.put_bytes.Given as goal

abbrev pub invariant-loop-b : goal.invariant-loop-b
invariant-loop-b l = Todo l.out l.next (drop l.b-index l.bytes) l.initial.out l.at l.bytes
