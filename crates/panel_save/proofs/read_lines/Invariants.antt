-- `read_lines` meets its contract: the run is that of the chunks read so far.
use mathlib.Core.Path.{◌≡◌}
use lib.ListN.{length}
use Rattle.panel_save.specs.Taking.{Read}
use Rattle.panel_save.proofs.read_lines.Given as goal

abbrev pub invariant-loop : goal.invariant-loop
invariant-loop g l =
    Read l.run l.held × (length l.chunk ≡ length l.initial.chunk) × (length l.held ≡ length l.initial.held) × (length l.out ≡ length l.initial.out)
