-- `put_wires` meets its contract: what is left to put are the wires from the index on.
use lib.ListN.{drop}
use Rattle.std.specs.List.{flat_map}
use Rattle.text.proofs.Puts.{Todo}
use Rattle.saved.specs.File.{wire_bytes, directed}
use Rattle.save.proofs.rows.put_wires.Given as goal

abbrev pub invariant-loop-w : goal.invariant-loop-w
invariant-loop-w l = Todo l.out l.next (flat_map wire_bytes (directed l.vertical (drop l.w-index l.ws))) l.initial.out l.at (flat_map wire_bytes (directed l.vertical l.ws))
