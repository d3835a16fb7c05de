-- A pass: the table holds those of the rows passed that the new wire does not meet.
use Rattle.std.proofs.Common.{arith, sym, ap, ◌∙◌, not}
use Rattle.sheet.specs.Run.{kept}
use Rattle.lists.proofs.Tables.{holds_as}
use Rattle.lists.proofs.Passes.{pass_next, pass_skip, only_yes, only_no, keep_gather}
use Rattle.table.proofs.Rows.{pushed_holds}
use Rattle.table.proofs.Passing.{pass_all}
use Rattle.add_wire.proofs.run.keep_unmet.Goals as goal
use Rattle.add_wire.proofs.run.keep_unmet.Goals.{then-not-meets, else-not-meets}

pub loop-w-preserved : goal.loop-w-preserved
loop-w-preserved c =
    let s = c.loop-w.invariant.1 in
    let t = ap not (sym c.meets.ensures) in
    elim c.if-not-meets.branch [
      | then-not-meets w ↦
          let k = pushed_holds _ s.so_far (omega arith) w.push.ensures in
          (rw (w.out-is, w.push.ensures) (omega arith), rw w.out-is (pass_next _ s (only_yes _ _ (t ∙ ap not w.if-not-meets.true)) k c.loop-w-test.true))
      | else-not-meets w ↦ (rw w.out-is (omega arith), rw w.out-is (pass_skip _ s (only_no _ _ (t ∙ ap not w.if-not-meets.false)) c.loop-w-test.true))
    ]

pub returns : goal.returns
unfolding kept
returns c = holds_as (keep_gather _ _) (pass_all c.loop-w.invariant.1 c.loop-w-test.false)
