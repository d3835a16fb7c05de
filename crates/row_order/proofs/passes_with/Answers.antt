-- What the closure answers is the test of the row and the other at the index.
use Rattle.std.proofs.Common.{arith, refl, sym, ◌∙◌}
use Rattle.std.proofs.lemmas.Fn.{says_at_two}
use Rattle.lists.proofs.Pairing.{each_next, each_stop}
use Rattle.row_order.proofs.passes_with.Goals as goal

pub returns-then-not-test : goal.returns-then-not-test
returns-then-not-test g c = λ e h.
    each_stop (e c.args.row.now) _ c.loop-other.other-index c.other-item.result (omega arith) c.other-item.is (c.loop-other.invariant e h) (sym (h _ _ _ (says_at_two g.F.Fn c.test.ensures refl)) ∙ c.if-not-test.true)

pub loop-other-preserved : goal.loop-other-preserved
loop-other-preserved g c = λ e h.
    each_next (e c.args.row.now) _ c.loop-other.other-index c.other-item.result (omega arith) c.other-item.is (c.loop-other.invariant e h) (sym (h _ _ _ (says_at_two g.F.Fn c.test.ensures refl)) ∙ c.if-not-test.false)
