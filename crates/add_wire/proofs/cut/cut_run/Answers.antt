-- The run piece by piece: what is done and what is left of it, cut from place a on, are the whole.
use Rattle.std.proofs.Common.{arith}
use Rattle.std.proofs.lemmas.Result.{MatchResult-from_err, MatchResult-weaker}
use Rattle.add_wire.proofs.Adding.{slice_start, slice_cut, slice_skip, slice_over, slice_end, slice_end_over}
use Rattle.add_wire.proofs.cut.cut_run.Goals as goal
use Rattle.add_wire.proofs.cut.cut_run.Goals.{then-marks-a+in_ok-try_push, else-marks-a}

pub loop-a-init : goal.loop-a-init
loop-a-init c = slice_start _ _ _ _ _

pub returns-in_err-try_push : goal.returns-in_err-try_push
returns-in_err-try_push c = MatchResult-from_err _ _ _ c.from_residual.ensures.0 (λ _. slice_over c.loop-a.invariant c.loop-a-test.true c.if-marks-a.true c.in_err-try_push.ensures.0)

pub loop-a-preserved : goal.loop-a-preserved
loop-a-preserved c =
    elim c.if-marks-a.branch [
      | then-marks-a+in_ok-try_push w ↦ rw (w.out-is, w.w-is) (slice_cut c.loop-a.invariant c.loop-a-test.true w.if-marks-a.true w.in_ok-try_push.ensures)
      | else-marks-a w ↦ rw (w.out-is, w.w-is) (slice_skip c.loop-a.invariant c.loop-a-test.true w.if-marks-a.false)
    ]

pub returns : goal.returns
returns c = MatchResult-weaker _ c.try_push-2.ensures (λ _ h. slice_end c.loop-a.invariant c.loop-a-test.false h) (λ _ h. slice_end_over c.loop-a.invariant c.loop-a-test.false h.0)
