-- `read_lines` meets its contract: the run and the bytes held are those of the chunks read so far, and it goes on while nothing fails.
use mathlib.Core.Path.{◌≡◌}
use mathlib.Core.Bool.{false}
use lib.ListN.{length}
use Rattle.panel_check.specs.Printing.{Read}
use Rattle.panel_check.proofs.read_lines.Given as goal

abbrev pub invariant-loop : goal.invariant-loop
invariant-loop g l =
    Read (record { run = l.r; count = l.count }) l.held l.out × (l.r.failed ≡ false) × (length l.chunk ≡ length l.initial.chunk) × (length l.held ≡ length l.initial.held) × (length l.out ≡ length l.initial.out)
