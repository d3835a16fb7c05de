-- By y, and then by x.
use Rattle.std.proofs.Common.{◌∙◌}
use Rattle.sheet.specs.Joints.{joint_point}
use Rattle.sheet.proofs.Points.{rises_by_pairs}
use Rattle.row_order.proofs.joint_before.Goals as goal

pub returns : goal.returns
returns c = c.lt.ensures ∙ rises_by_pairs (joint_point c.args.a) (joint_point c.args.b)
