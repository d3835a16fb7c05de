-- A joint with a next one in its column is among the joints, and the wire that goes from it to that one is clear.
use Rattle.std.proofs.Common.{arith, sym, subst, ◌∙◌, length}
use Rattle.lawful.specs.Looks.{Chained}
use Rattle.lawful.proofs.Linking.{next_below}
use Rattle.lawful.proofs.Running.{upright_in}
use Rattle.lawful.proofs.runs.goes_upright.Goals as goal

pub bounds-js-k : goal.bounds-js-k
bounds-js-k c = (next_below _ _ _ c.next_row-r.ensures c.if-js-r.false).0

pub returns-then-is_clear : goal.returns-then-is_clear
returns-then-is_clear c =
    let js = c.args.js.now in
    let q = c.requires in
    let next = next_below _ _ _ c.next_row-r.ensures c.if-js-r.false in
    let chained = subst (Chained js (length js)) (sym c.loop-tried.invariant.0) q.1.1.0 in
    (c.loop-tried.invariant.0, λ e. upright_in js q.1.0 _ _ _ _ chained next.1 (sym c.is_clear.ensures ∙ c.if-is_clear.true) next.0 c.if-js-r.false q.1.1.1)

pub bounds-cols-k : goal.bounds-cols-k
bounds-cols-k c = omega (arith, (next_below _ _ _ c.next_row-r.ensures c.if-js-r.false).0, c.requires.0)
