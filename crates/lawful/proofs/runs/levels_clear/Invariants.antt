-- Each horizontal wire passed is clear.
use Rattle.std.proofs.Common.{◌≤◌, false}
use Rattle.lawful.proofs.Running.{Running}
use Rattle.lawful.proofs.runs.levels_clear.Given as goal

abbrev pub invariant-loop-w : goal.invariant-loop-w
invariant-loop-w l = (1 ≤ l.k) × Running false l.js l.ws l.w-index l.initial.last l.last
