-- `panel_rows::answer_all` meets its contract: the drawing stays lawful, and the buffers keep their lengths.
use mathlib.Core.Path.{◌≡◌}
use Prim.Native.Nat.{◌≤◌}
use lib.ListN.{length}
use Rattle.sheet.specs.Rules.{Lawful}
use Rattle.panel_rows.proofs.answer_all.Given as goal

abbrev pub invariant-loop : goal.invariant-loop
invariant-loop g l =
    Lawful l.d × (l.count ≤ 81) × (length l.chunk ≡ length l.initial.chunk) × (length l.held ≡ length l.initial.held) × (length l.out ≡ length l.initial.out)
