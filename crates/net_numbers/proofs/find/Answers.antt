-- `net_numbers::find` meets its contract: the key's place, if it has one, stays from low on and below high.
use native.Mathlib.Omega.{arith}
use Rattle.net_numbers.proofs.Keys.{between_all, between_high, between_low, between_one}
use Rattle.net_numbers.proofs.find.Goals as goal

pub loop-low-init : goal.loop-low-init
loop-low-init c = between_all c.requires

pub loop-low-preserved-then-k-keys : goal.loop-low-preserved-then-k-keys
loop-low-preserved-then-k-keys c = between_high c.requires _ c.loop-low.invariant (omega arith) (omega arith) c.if-k-keys.true

pub loop-low-preserved : goal.loop-low-preserved
loop-low-preserved c = between_low c.requires _ c.loop-low.invariant (omega arith) (omega arith) c.if-k-keys.false

pub returns : goal.returns
returns c = between_one c.requires c.loop-low.invariant (omega arith)
