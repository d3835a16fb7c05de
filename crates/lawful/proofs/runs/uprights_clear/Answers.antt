-- Each vertical wire passed is clear.
use Rattle.std.proofs.Common.{arith, get_or, subst, sym, ap, ◌∙◌, length}
use Rattle.lists.proofs.Tests.{clash}
use Rattle.lists.proofs.Tables.{same_row}
use Rattle.sheet.specs.Drawings.{zero_wire}
use Rattle.lawful.specs.Looks.{Chained}
use Rattle.lawful.proofs.Running.{running_next, running_end, none_run}
use Rattle.lawful.proofs.runs.uprights_clear.Goals as goal
use Rattle.lawful.proofs.runs.uprights_clear.Goals.{else-w-via-then-w+else-not-goes_upright, else-w-via-else-w}

pub returns-in_default : goal.returns-in_default
returns-in_default c = λ e. none_run c.args.ws.now (omega (arith, c.in_default.ensures.item))

pub loop-w-preserved : goal.loop-w-preserved
loop-w-preserved c =
    let ws = c.args.ws.now in
    let js = c.args.js.now in
    let i = c.loop-w.w-index in
    let step = running_next (get_or ws i zero_wire) (omega arith) (same_row ws i zero_wire _ (omega arith)) c.loop-w.invariant.1 in
    elim c.else-w.branch [
      | else-w-via-then-w+else-not-goes_upright w ↦
          (subst (Chained js (length js)) (sym w.goes_upright.ensures.0 ∙ ap (λ x. x.next) (sym w.cols-is)) c.loop-w.invariant.0, step (λ d. w.goes_upright.ensures.1 w.if-not-goes_upright.false))
      | else-w-via-else-w w ↦ (subst (Chained js (length js)) (ap (λ x. x.next) (sym w.cols-is)) c.loop-w.invariant.0, step (λ d. absurd (clash d w.if-w.false)))
    ]

pub returns : goal.returns
returns c = λ e. running_end (omega arith) c.loop-w.invariant.1
