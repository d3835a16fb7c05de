-- `net_numbers::links` meets its contract: the rows so far are the numbers at the ends of the wires passed.
use mathlib.Core.Path.{◌≡◌}
use lib.ListN.{length}
use Rattle.sheet.specs.Geometry.{ends}
use Rattle.nets.specs.Tables.{link_ends}
use Rattle.lists.proofs.Finding.{Filled}
use Rattle.net_numbers.proofs.Keys.{Ready}
use Rattle.net_numbers.proofs.Filling.{numbers_of}
use Rattle.net_numbers.proofs.links.Given as goal

abbrev pub invariant-loop-i : goal.invariant-loop-i
invariant-loop-i l =
    (length l.rows ≡ 512) × Ready (ends l.ws) l.js l.keys × Filled link_ends (numbers_of l.js) l.ws l.i l.rows
