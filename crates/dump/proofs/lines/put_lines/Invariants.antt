-- `put_lines` meets its contract: what is left to put are the lines of the rows from the index on.
use Prim.Native.Nat.{◌+◌, ◌*◌, ◌≤◌}
use lib.ListN.{drop}
use Rattle.std.specs.List.{flat_map}
use Rattle.text.proofs.Puts.{Todo}
use Rattle.dump.proofs.lines.put_lines.Given as goal

abbrev pub invariant-loop-row : goal.invariant-loop-row
invariant-loop-row g l = record {
  todo : Todo l.out l.next (flat_map g.line.of (drop l.row-index l.rows)) l.initial.out l.at (flat_map g.line.of l.rows);
  so_far : l.next ≤ l.at + g.line.most * l.row-index;
}
