-- `net_numbers::find` meets its contract: the key's place, if it has one, stays from low on and below high.
use Prim.Native.Nat.{◌-◌}
use Rattle.net_numbers.proofs.Keys.{Between}
use Rattle.net_numbers.proofs.find.Given as goal

abbrev pub invariant-loop-low : goal.invariant-loop-low
invariant-loop-low l = Between l.keys l.n l.k l.low l.high

abbrev pub decreases-loop-low : goal.decreases-loop-low
decreases-loop-low l = l.high - l.low
