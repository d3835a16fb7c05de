-- A pass: the rows told so far, and those of the open key and the keys to come, are the joint rows of all keys.
use Rattle.std.proofs.Common.{◌≤◌, length}
use Rattle.joints.proofs.Gathering.{Gathered}
use Rattle.joints.proofs.rows.gathered.Given as goal

abbrev pub invariant-loop-i : goal.invariant-loop-i
invariant-loop-i l = (l.i ≤ length l.ks) × Gathered l.ks (length l.ks) l.i l.last l.count l.out
