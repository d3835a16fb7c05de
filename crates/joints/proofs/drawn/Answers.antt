-- Both tables are those of the lists that they hold, and the joints are counted.
use Rattle.std.proofs.Common.{ap, ◌∙◌}
use Rattle.sheet.specs.Geometry.{marks}
use Rattle.sheet.specs.Joints.{joints_of}
use Rattle.sheet.specs.Drawings.{joint_table}
use Rattle.sheet.specs.Parts.{pads_of}
use Rattle.joints.proofs.Drawing.{drawing_is}
use Rattle.joints.proofs.drawn.Goals as goal

pub returns : goal.returns
returns c =
    drawing_is c.requires (c.count_joints.ensures ∙ (λ i. joint_table (joints_of (marks (c.in_use-2.ensures i) (c.in_use-3.ensures i)))))
    (c.all_pads-pads.ensures.points_are ∙ ap pads_of c.in_use.ensures)
