-- Below the calls: the tests that the plain check makes row by row.
use Rattle.std.specs.Prelude.{Bool, ◌&&◌, ◌||◌, not, List, ◌≤◌, eqb}
use Rattle.std.specs.List.{list_any}
use Rattle.sheet.specs.declared.Wire.{Wire}
use Rattle.sheet.specs.declared.Joint.{Joint}
use Rattle.sheet.specs.declared.Drawing.{Drawing}
use Rattle.parts.specs.Tables.{PartsFit}
use Rattle.sheet.specs.Points.{same}
use Rattle.sheet.specs.Geometry.{high, tip}
use Rattle.sheet.specs.Joints.{joint_point, count_at}
use Rattle.merge.specs.Following.{goes_on}

-- the wire goes on in line in no other, or more than the two ends lie where they meet
unfoldable pub parted : List Wire → List Joint → Wire → Bool
parted ws js a = not (list_any (goes_on a) ws) || not (eqb (count_at (tip high a) js) 2)

-- the two joint rows are one
unfoldable pub same_row : Joint → Joint → Bool
same_row i j = same (joint_point i) (joint_point j) && eqb i.count j.count

-- rule 1, as far as the later rules need it: the counts are within the rooms, and components meet the limits
pub record Within (d : Drawing) : Type 0 where
  pub wires : d.wires.count ≤ 512
  pub components : PartsFit d.components
  pub joints : d.joints.count ≤ 1408
