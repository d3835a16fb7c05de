-- The keys so far are those of the rows passed.
use Rattle.std.proofs.Common.{◌≡◌, length}
use Rattle.sheet.specs.Joints.{joint_point}
use Rattle.joints.specs.Keys.{spot}
use Rattle.lists.proofs.Finding.{Filled}
use Rattle.joints.proofs.keys.joint_keys.Given as goal

abbrev pub invariant-loop-i : goal.invariant-loop-i
invariant-loop-i l = (length l.keys ≡ 1408) × Filled spot joint_point l.js l.i l.keys
