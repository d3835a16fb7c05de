-- The keys so far are those of the rows passed.
use Rattle.std.proofs.Common.{ℕ, arith, ap, map, ◌∙◌}
use lib.ListN.{length-set, length-replicate}
use lib.Seq.{take_all}
use Rattle.sheet.specs.Joints.{joint_point}
use Rattle.sheet.specs.Drawings.{zero_joint}
use Rattle.lists.proofs.Finding.{filled_start, filled_next, filled_end}
use Rattle.joints.proofs.keys.joint_keys.Goals as goal

pub loop-i-init : goal.loop-i-init
loop-i-init c = (length-replicate {A = ℕ} 1408 0, filled_start)

pub loop-i-preserved : goal.loop-i-preserved
loop-i-preserved c =
    (length-set c.loop-i.keys c.loop-i.i c.key.result ∙ c.loop-i.invariant.0, filled_next zero_joint c.key.result c.loop-i.invariant.1 c.key.ensures c.loop-i-test.true (omega arith))

pub returns : goal.returns
returns c =
    record { size = c.loop-i.invariant.0; spots = filled_end _ c.loop-i.invariant.1 (omega arith) ∙ ap (map joint_point) (take_all _ c.args.js.now (omega arith)) }
