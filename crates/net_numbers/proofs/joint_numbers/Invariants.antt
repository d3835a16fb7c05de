-- `net_numbers::joint_numbers` meets its contract: the rows so far are the numbers of the points passed.
use mathlib.Core.Path.{◌≡◌}
use lib.ListN.{length}
use Rattle.net_numbers.specs.Netted.{number_of_joint}
use Rattle.lists.proofs.Finding.{Filled}
use Rattle.net_numbers.proofs.Keys.{Ready}
use Rattle.net_numbers.proofs.joint_numbers.Given as goal

abbrev pub invariant-loop-i : goal.invariant-loop-i
invariant-loop-i l =
    (length l.rows ≡ 384) × Ready l.ps l.js l.keys × Filled (λ k. k) (number_of_joint l.js) l.ps l.i l.rows
