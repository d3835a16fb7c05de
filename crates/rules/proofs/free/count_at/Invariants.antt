-- None of the joints passed lies at the point.
use Rattle.std.proofs.Common.{◌≡◌, drop}
use Rattle.sheet.specs.Joints.{count_at}
use Rattle.rules.proofs.free.count_at.Given as goal

abbrev pub invariant-loop-j : goal.invariant-loop-j
invariant-loop-j l = count_at l.p l.js ≡ count_at l.p (drop l.j-index l.js)
