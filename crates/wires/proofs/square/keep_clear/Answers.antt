-- A pass: the table holds those of the rows passed that the box does not meet.
use Rattle.std.proofs.Common.{arith, sym, ap, ◌∙◌, not}
use Rattle.lists.proofs.Tables.{holds_as}
use Rattle.lists.proofs.Passes.{pass_next, pass_skip, only_yes, only_no, keep_gather}
use Rattle.table.proofs.Rows.{pushed_holds}
use Rattle.table.proofs.Passing.{pass_all}
use Rattle.wires.proofs.square.keep_clear.Goals as goal
use Rattle.wires.proofs.square.keep_clear.Goals.{then-not-hits, else-not-hits}

pub loop-w-preserved : goal.loop-w-preserved
loop-w-preserved c =
    let s = c.loop-w.invariant.1 in
    let t = ap not (sym c.hits.ensures) in
    elim c.if-not-hits.branch [
      | then-not-hits w ↦
          let k = pushed_holds _ s.so_far (omega arith) w.push.ensures in
          (rw (w.out-is, w.push.ensures) (omega arith), rw w.out-is (pass_next _ s (only_yes _ _ (t ∙ ap not w.if-not-hits.true)) k c.loop-w-test.true))
      | else-not-hits w ↦ (rw w.out-is (omega arith), rw w.out-is (pass_skip _ s (only_no _ _ (t ∙ ap not w.if-not-hits.false)) c.loop-w-test.true))
    ]

pub returns : goal.returns
returns c = holds_as (keep_gather _ _) (pass_all c.loop-w.invariant.1 c.loop-w-test.false)
