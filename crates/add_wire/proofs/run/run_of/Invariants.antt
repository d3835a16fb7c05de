-- A fold: the run reaches to the outermost ends of those of the rows passed that it meets.
use Rattle.std.proofs.Common.{◌≡◌, take}
use Rattle.sheet.specs.Run.{run}
use Rattle.add_wire.proofs.run.run_of.Given as goal

abbrev pub invariant-loop-w : goal.invariant-loop-w
invariant-loop-w l = l.r ≡ run l.n (take l.w-index l.ws)
