-- `listing::put_lines` meets its contract: what is left to put are the lines of the components from the index on.
use mathlib.Core.List.{map}
use Prim.Native.Nat.{◌≤◌, ◌*◌}
use lib.ListN.{drop}
use Rattle.text.proofs.Puts.{Todo}
use Rattle.listing.specs.Listing.{entry, kind_lines, nth}
use Rattle.listing.proofs.lines.put_lines.Given as goal

abbrev pub invariant-loop-c : goal.invariant-loop-c
invariant-loop-c l = record {
  pads : l.pad ≤ 3 * l.c-index;
  todo : Todo l.out l.next (kind_lines (nth l.numbers) l.kind l.pad (map entry (drop l.c-index l.cs))) l.initial.out l.at (kind_lines (nth l.numbers) l.kind 0 (map entry l.cs));
}
