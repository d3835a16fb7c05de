-- The rows from i on are left to try.
use Rattle.std.proofs.Common.{◌≡◌, Bool, drop}
use Rattle.lists.specs.Lists.{pairs}
use Rattle.row_order.specs.Tests.{Tests}
use Rattle.row_order.proofs.every_pair.Given as goal

abbrev pub invariant-loop-i : goal.invariant-loop-i
invariant-loop-i g l = (e : g.row.T.Denot → g.row.T.Denot → Bool) → Tests g.F.Fn l.test e → pairs e l.rows ≡ pairs e (drop l.i l.rows)
