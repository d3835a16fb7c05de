-- A pass: the table has the numbers of both ends of each of the rows passed.
use Rattle.std.proofs.Common.{◌≡◌, ◌*◌}
use Rattle.lists.proofs.Passes.{Pass}
use Rattle.merge.specs.Codes.{end_marks}
use Rattle.merge.proofs.Coding.{Listed}
use Rattle.merge.proofs.codes.end_codes.Given as goal

abbrev pub invariant-loop-w : goal.invariant-loop-w
invariant-loop-w l = (l.out.count ≡ 2 * l.w-index) × Pass Listed end_marks l.ws l.w-index l.out
