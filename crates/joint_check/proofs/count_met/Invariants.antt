-- Each of the keys passed met a row, and the counts tell how often each row was met.
use Rattle.joint_check.proofs.Meeting.{Meeting}
use Rattle.joint_check.proofs.count_met.Given as goal

abbrev pub invariant-loop-k : goal.invariant-loop-k
invariant-loop-k l = Meeting l.codes l.n l.ks l.k-index l.counts
