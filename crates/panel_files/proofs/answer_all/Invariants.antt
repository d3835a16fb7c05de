-- `panel_files::answer_all` meets its contract: the sum of what was printed so far is that of the files so far.
use mathlib.Core.Path.{◌≡◌}
use lib.ListN.{length}
use Rattle.panel_files.proofs.Summed.{Summed}
use Rattle.panel_files.proofs.answer_all.Given as goal

abbrev pub invariant-loop : goal.invariant-loop
invariant-loop g l =
    (2 ≡ length l.head) × (65536 ≡ length l.held) × (65536 ≡ length l.out) × Summed l.sum
