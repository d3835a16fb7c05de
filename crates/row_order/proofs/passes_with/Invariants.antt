-- The others from the index on are left to try.
use Rattle.std.proofs.Common.{◌≡◌, Bool, drop}
use Rattle.std.specs.List.{list_all}
use Rattle.row_order.specs.Tests.{Tests}
use Rattle.row_order.proofs.passes_with.Given as goal

abbrev pub invariant-loop-other : goal.invariant-loop-other
invariant-loop-other g l = (e : g.row.T.Denot → g.row.T.Denot → Bool) → Tests g.F.Fn l.test e → list_all (e l.row) l.others ≡ list_all (e l.row) (drop l.other-index l.others)
