-- A row is carried: what is left to do is the whole insertion.
use Rattle.std.proofs.Common.{refl, arith, rules}
use Rattle.sketch.proofs.Inserting.{carry_next, carry_end}
use Rattle.sketch.proofs.tables.put.Goals as goal

pub loop-k-init : goal.loop-k-init
loop-k-init g c = record { left = refl; long = search rules }

pub loop-k-preserved : goal.loop-k-preserved
loop-k-preserved g c = carry_next _ c.loop-k.invariant (omega arith)

pub returns : goal.returns
returns g c = (carry_end c.loop-k.invariant c.loop-k-test.false, refl)
