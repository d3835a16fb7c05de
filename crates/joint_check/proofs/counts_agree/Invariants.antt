-- The rows passed were met, as often as they tell.
use Rattle.joint_check.specs.Meetings.{CountsAgree}
use Rattle.joint_check.proofs.counts_agree.Given as goal

abbrev pub invariant-loop-i : goal.invariant-loop-i
invariant-loop-i l = CountsAgree l.js.rows l.i l.counts
