-- The first joint at the point, or none.
use Rattle.std.proofs.Common.{arith, sym, ap, ◌∙◌, get_or}
use Rattle.lists.proofs.Pairing.{step_on, step_off}
use Rattle.lists.proofs.Tables.{same_row}
use Rattle.sheet.specs.Points.{same}
use Rattle.sheet.specs.Joints.{count_at}
use Rattle.sheet.specs.Drawings.{zero_joint}
use Rattle.rules.proofs.Counted.{count_here, count_behind}
use Rattle.rules.proofs.free.count_at.Goals as goal

pub returns-then-same : goal.returns-then-same
returns-then-same c =
    let i = c.loop-j.j-index in
    let js = c.args.js.now in
    sym (step_on (count_at c.args.p) js i (get_or js i zero_joint) (omega arith) (same_row js i zero_joint _ (omega arith)) c.loop-j.invariant (count_here c.args.p (get_or js i zero_joint) _ (ap (same c.args.p) (sym c.place.ensures) ∙ sym c.same.ensures ∙ c.if-same.true)))

pub loop-j-preserved : goal.loop-j-preserved
loop-j-preserved c =
    let i = c.loop-j.j-index in
    let js = c.args.js.now in
    step_on (count_at c.args.p) js i (get_or js i zero_joint) (omega arith) (same_row js i zero_joint _ (omega arith)) c.loop-j.invariant (count_behind c.args.p (get_or js i zero_joint) _ (ap (same c.args.p) (sym c.place.ensures) ∙ sym c.same.ensures ∙ c.if-same.false))

pub returns : goal.returns
unfolding count_at
returns c = sym (step_off (count_at c.args.p) c.args.js.now c.loop-j.j-index (omega arith) c.loop-j.invariant)
