-- A flag after another, each by looking up the wire's high end.
use Rattle.std.proofs.Common.{arith, refl}
use lib.ListN.{length-set}
use Rattle.merge.proofs.Flagging.{flag_start, flag_next, flag_end}
use Rattle.merge.proofs.held.flags_of.Goals as goal

pub loop-i-init : goal.loop-i-init
loop-i-init c = (refl, flag_start _ _ _)

pub loop-i-preserved : goal.loop-i-preserved
loop-i-preserved c = (simp length-set c.loop-i.invariant.0, flag_next _ c.loop-i.invariant.1 c.is_held.ensures c.loop-i-test.true (omega arith))

pub returns : goal.returns
returns c = flag_end c.loop-i.invariant.1 c.loop-i-test.false
