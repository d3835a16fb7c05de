-- The chains stay as they were.
use Rattle.std.proofs.Common.{◌≡◌, length}
use Rattle.lawful.proofs.runs.goes_upright.Given as goal

abbrev pub invariant-loop-tried : goal.invariant-loop-tried
invariant-loop-tried l = (l.cols.next ≡ l.initial.cols.next) × (length l.cols.first ≡ 12001)
