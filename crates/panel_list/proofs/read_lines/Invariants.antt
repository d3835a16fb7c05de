-- `panel_list::read_lines` meets its contract: the run is that of the chunks read so far, and goes on while nothing fails.
use mathlib.Core.Path.{◌≡◌}
use mathlib.Core.Bool.{false}
use lib.ListN.{length}
use Rattle.panel_list.specs.Printing.{Read}
use Rattle.panel_list.proofs.read_lines.Given as goal

abbrev pub invariant-loop : goal.invariant-loop
invariant-loop g l =
    Read l.run l.held × (l.run.failed ≡ false) × (length l.chunk ≡ length l.initial.chunk) × (length l.held ≡ length l.initial.held) × (length l.out ≡ length l.initial.out)
