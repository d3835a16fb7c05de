-- A pass: the table lists the pads of the components passed, a block behind a block.
use Rattle.std.proofs.Common.{◌≤◌, ◌*◌}
use Rattle.lists.proofs.Passes.{Pass}
use Rattle.parts.specs.Tables.{TabledPoints}
use Rattle.sheet.specs.Parts.{pads}
use Rattle.parts.proofs.pads.all_pads.Given as goal

abbrev pub invariant-loop-c : goal.invariant-loop-c
invariant-loop-c l = (l.out.count ≤ 3 * l.c-index) × Pass TabledPoints pads l.cs l.c-index l.out
