-- A pass: the table holds those of the rows passed that the new wire does not meet.
use Rattle.std.proofs.Common.{◌≤◌, not}
use Rattle.sheet.specs.Geometry.{meets}
use Rattle.lists.proofs.Passes.{Pass, only}
use Rattle.wires.specs.Tables.{Tabled}
use Rattle.add_wire.proofs.run.keep_unmet.Given as goal

abbrev pub invariant-loop-w : goal.invariant-loop-w
invariant-loop-w l = (l.out.count ≤ l.w-index) × Pass Tabled (only (λ w. not (meets l.n w))) l.ws l.w-index l.out
