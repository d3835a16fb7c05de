-- Each horizontal wire passed goes from the joint before row k to it.
use Rattle.std.proofs.Common.{arith, get_or}
use Rattle.lists.proofs.Tests.{clash}
use Rattle.lists.proofs.Tables.{same_row}
use Rattle.sheet.specs.Drawings.{zero_wire}
use Rattle.lawful.proofs.Running.{running_next, running_end, none_run, level_in}
use Rattle.lawful.proofs.runs.levels_clear.Goals as goal
use Rattle.lawful.proofs.runs.levels_clear.Goals.{then-not-w+in-Some-level_from, else-not-w}

pub returns-in_default : goal.returns-in_default
returns-in_default c = λ e. none_run c.args.ws.now (omega (arith, c.in_default.ensures.item))

pub loop-w-preserved : goal.loop-w-preserved
loop-w-preserved c =
    let ws = c.args.ws.now in
    let i = c.loop-w.w-index in
    let step = running_next (get_or ws i zero_wire) (omega arith) (same_row ws i zero_wire _ (omega arith)) c.loop-w.invariant.1 in
    elim c.if-not-w.branch [
      | then-not-w+in-Some-level_from w ↦
          let q = w.in-Some-level_from.ensures in
          (omega (arith, w.k-is, q.0), step (λ d. level_in c.args.js.now c.requires _ _ w.in-Some-level_from.q q.1.1 (omega (arith, q.0)) q.1.0 d))
      | else-not-w w ↦ (omega (arith, w.k-is), step (λ d. absurd (clash w.if-not-w.false d)))
    ]

pub returns : goal.returns
returns c = λ e. running_end (omega arith) c.loop-w.invariant.1
