-- Each row with those behind it.
use Rattle.std.proofs.Common.{arith, sym, ◌∙◌}
use Rattle.lists.proofs.Pairing.{pair_next, pair_stop, pair_end}
use Rattle.row_order.proofs.every_pair.Goals as goal

pub returns-then-not-passes_with : goal.returns-then-not-passes_with
returns-then-not-passes_with g c = λ e h.
    pair_stop e _ c.loop-i.i c.index-rows-i.result (omega arith) c.index-rows-i.is (c.loop-i.invariant e h) (sym (c.passes_with.ensures e h) ∙ c.if-not-passes_with.true)

pub loop-i-preserved : goal.loop-i-preserved
loop-i-preserved g c = λ e h.
    pair_next e _ c.loop-i.i c.index-rows-i.result (omega arith) c.index-rows-i.is (c.loop-i.invariant e h) (sym (c.passes_with.ensures e h) ∙ c.if-not-passes_with.false)

pub returns : goal.returns
returns g c = λ e h. pair_end e _ c.loop-i.i (omega arith) (c.loop-i.invariant e h)
