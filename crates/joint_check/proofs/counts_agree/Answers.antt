-- The rows passed were met, as often as they tell.
use Rattle.std.proofs.Common.{arith, sym, ◌∙◌}
use mathlib.Core.Bool.{false≢true}
use Rattle.joint_check.proofs.Meeting.{agree_none, agree_told, agree_next, agree_end}
use Rattle.joint_check.proofs.counts_agree.Goals as goal

pub loop-i-init : goal.loop-i-init
loop-i-init c = agree_none _ _

pub returns-then-not-agrees : goal.returns-then-not-agrees
returns-then-not-agrees c = λ e. absurd (false≢true e)

pub loop-i-preserved : goal.loop-i-preserved
loop-i-preserved c = let t = agree_told _ _ (sym c.agrees.ensures ∙ c.if-not-agrees.false) in agree_next c.loop-i.invariant t.0 t.1

pub returns : goal.returns
returns c = λ e. agree_end c.args.js.count c.loop-i.invariant (omega arith)
