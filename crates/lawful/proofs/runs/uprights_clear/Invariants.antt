-- Each vertical wire passed is clear.
use Rattle.std.proofs.Common.{length, true}
use Rattle.lawful.specs.Looks.{Chained}
use Rattle.lawful.proofs.Running.{Running}
use Rattle.lawful.proofs.runs.uprights_clear.Given as goal

abbrev pub invariant-loop-w : goal.invariant-loop-w
invariant-loop-w l = Chained l.js (length l.js) l.cols.next × Running true l.js l.ws l.w-index l.initial.last l.last
