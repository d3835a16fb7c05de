-- The pairs passed do not touch.
use Rattle.std.proofs.Common.{arith, sym, ◌∙◌, ap}
use Rattle.lists.proofs.Finding.{get_in}
use Rattle.rules.specs.Touching.{as_touching}
use Rattle.rules.proofs.Pairs.{outer_end, outer_in, inner_end, inner_next, inner_stop}
use Rattle.rules.proofs.boxes.first_touching.Goals as goal

pub box_of-p-requires : goal.box_of-p-requires
box_of-p-requires c = c.requires.1 _ (get_in _ _ _ c.walk-test.true)

pub loop-j-init : goal.loop-j-init
loop-j-init c = (c.walk.invariant.0, outer_in _ c.walk.invariant.1 c.box_of-p.ensures c.walk-test.true (omega arith))

pub box_of-q-requires : goal.box_of-q-requires
box_of-q-requires c = c.requires.1 _ (get_in _ _ _ c.loop-j-test.true)

pub loop-j-preserved : goal.loop-j-preserved
loop-j-preserved c = (c.loop-j.invariant.0, inner_next _ c.box_of-q.result c.loop-j.invariant.1 c.box_of-q.ensures (sym c.touches.ensures ∙ c.if-touches.false) c.loop-j-test.true (omega arith))

pub walk-preserved : goal.walk-preserved
walk-preserved c = (c.loop-j.invariant.0, inner_end c.loop-j.invariant.1 (omega arith) (omega arith))

pub returns-after-walk : goal.returns-after-walk
returns-after-walk c = ap as_touching c.walk.invariant.0 ∙ outer_end c.walk.invariant.1 (omega arith) (omega arith)

pub returns-then-touches : goal.returns-then-touches
returns-then-touches c = inner_stop _ c.box_of-q.result c.loop-j.invariant.1 c.box_of-q.ensures (sym c.touches.ensures ∙ c.if-touches.true) c.loop-j-test.true (omega arith)
