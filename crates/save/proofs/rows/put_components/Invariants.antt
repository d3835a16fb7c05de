-- `put_components` meets its contract: what is left to put are the components from the index on.
use lib.ListN.{drop}
use Rattle.std.specs.List.{flat_map}
use Rattle.text.proofs.Puts.{Todo}
use Rattle.saved.specs.File.{part_bytes}
use Rattle.save.proofs.rows.put_components.Given as goal

abbrev pub invariant-loop-c : goal.invariant-loop-c
invariant-loop-c l = Todo l.out l.next (flat_map part_bytes (drop l.c-index l.cs)) l.initial.out l.at (flat_map part_bytes l.cs)
