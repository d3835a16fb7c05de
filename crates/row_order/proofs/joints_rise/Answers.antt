-- The slice is sorted by the test of each row and the next.
use Rattle.std.proofs.Common.{rules}
use Rattle.lists.proofs.Sorted.{links_of_sorted_by}
use Rattle.sheet.specs.Points.{rises}
use Rattle.sheet.specs.Joints.{joint_point}
use Rattle.row_order.proofs.joints_rise.Goals as goal

pub returns : goal.returns
returns c = links_of_sorted_by (λ i j. rises (joint_point i) (joint_point j)) _ _ c.is_sorted_by.ensures.cases (λ a s p k. search rules)
