-- The tests of rules 2 and 7, which look at rows against rows.
use Rattle.std.specs.Prelude.{Bool, ◌&&◌, ◌||◌, not, List, eqb, ltb}
use Rattle.std.specs.Bool.{beq}
use Rattle.lists.specs.Lists.{pairs, links}
use Rattle.sheet.specs.declared.Wire.{Wire}
use Rattle.sheet.specs.declared.Joint.{Joint}
use Rattle.sheet.specs.Points.{rises}
use Rattle.sheet.specs.Joints.{joint_point}
use Rattle.sheet.specs.Parts.{ahead}
use Rattle.sheet.specs.Drawings.{Sheet}

-- ---- 2: "no two wires of one direction share a length of line"

-- the two wires are of one direction and share a length of line
unfoldable pub share : Wire → Wire → Bool
share a b = beq a.vertical b.vertical && (eqb a.line b.line && (ltb a.start b.end && ltb b.start a.end))

-- rule 2
unfoldable pub check2 : List Wire → Bool
check2 ws = pairs (λ a b. not (share a b)) ws

-- ---- 7: "rows strictly rise: horizontal wires by (y, x1), then vertical by (x, y1); components and joints by (y, x)"

-- wire b comes after wire a
unfoldable pub upward : Wire → Wire → Bool
upward a b =
    (not a.vertical && b.vertical)
    || (beq a.vertical b.vertical && (ltb a.line b.line || (eqb a.line b.line && ltb a.start b.start)))

-- rule 7, each row against the next
unfoldable pub check7 : Sheet → List Joint → Bool
check7 s js = links upward s.wires && (links ahead s.parts && links (λ i j. rises (joint_point i) (joint_point j)) js)
