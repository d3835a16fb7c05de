-- If the number is one of the first n, it is still to be met on its chain.
use Prim.Native.Nat.{◌≤◌}
use lib.ListN.{take}
use Rattle.chains.proofs.Seeking.{Sought}
use Rattle.chains.proofs.seek.Given as goal

abbrev pub invariant-loop-k : goal.invariant-loop-k
invariant-loop-k l = (l.k ≤ l.n) × Sought l.c (take l.n l.codes) l.before l.k

abbrev pub decreases-loop-k : goal.decreases-loop-k
decreases-loop-k l = l.k
