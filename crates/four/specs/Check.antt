-- The drawing check under the four numbers: "names the first broken rule in this order". The tests of wires and points alone are those of
-- `limits`, `row_order` and `rules`.
use Rattle.std.specs.Prelude.{ℕ, suc, Bool, true, ◌&&◌, cond, List, [], ◌∷◌, eqb, leb, drop}
use Rattle.lists.specs.Lists.{links}
use Rattle.std.specs.List.{list_all}
use Rattle.edge.specs.Coordinates.{is_position}
use Rattle.orientation.specs.declared.RotMirror.{RotMirror}
use Rattle.orientation.specs.Orientations.{known, zeros, same_of}
use Rattle.label.specs.Labels.{label_ok, all_zero}
use Rattle.sheet.specs.declared.Joint.{Joint}
use Rattle.sheet.specs.Points.{rises}
use Rattle.sheet.specs.Joints.{joint_point}
use Rattle.sheet.specs.Drawings.{joint_rows}
use Rattle.limits.specs.Limits.{blank_wire, blank_joint, wire_fits}
use Rattle.row_order.specs.RowOrder.{check2, upward}
use Rattle.rules.specs.declared.Checked.{Checked}
use Rattle.rules.specs.Touching.{Touching, none}
use Rattle.rules.specs.Check.{check3, check4, check6, broken, unless, unless_touching}
use Rattle.four.specs.Plans.{Part, Plan, Drawing, pads_of, marks_of, touches, ahead, lists_of}

-- "4: unknown kind, or not one of the eight orientations": this says that neither is so
abbrev pub known_symbol : ℕ → RotMirror → Bool
known_symbol kind o = leb kind 2 && known o

-- ---- rule 1

-- a component row that is all zero
unfoldable pub blank_part : Part → Bool
blank_part c = eqb c.kind 0 && (same_of c.turn zeros && (eqb c.x 0 && (eqb c.y 0 && all_zero c.label)))

-- the component meets the limits
unfoldable pub part_fits : Part → Bool
part_fits c = known_symbol c.kind c.turn && (is_position c.x && (is_position c.y && label_ok c.label))

-- "counts are within the rooms"
unfoldable pub rooms : Drawing → Bool
rooms d = leb d.wires.count 512 && (leb d.components.count 128 && leb d.joints.count 1408)

-- "rows beyond the counts are all zero"
unfoldable pub blanks : Drawing → Bool
blanks d =
    list_all blank_wire (drop d.wires.count d.wires.rows)
    && (list_all blank_part (drop d.components.count d.components.rows)
    && list_all blank_joint (drop d.joints.count d.joints.rows))

-- "each wire and component meets the limits"
unfoldable pub limits : Drawing → Bool
limits d = list_all wire_fits (lists_of d).wires && list_all part_fits (lists_of d).parts

unfoldable pub check1 : Drawing → Bool
check1 d = rooms d && (blanks d && limits d)

-- ---- rule 5: "the first pair of boxes that share a point, by lower row and then higher"

-- row i is b, and the rows from j on are cs; other is the answer if b touches none of these
unfoldable pub touching_one : ℕ → Part → ℕ → List Part → Touching → Touching
touching_one i b j [] other = other
touching_one i b j (c ∷ cs) other = cond (touches b c) (record { found = true; first = i; second = j }) (touching_one i b (suc j) cs other)

-- the first pair among the rows, which are counted from i
unfoldable pub touching_from : ℕ → List Part → Touching
touching_from i [] = none
touching_from i (c ∷ cs) = touching_one i c (suc i) cs (touching_from (suc i) cs)

-- ---- rule 7
unfoldable pub check7 : Plan → List Joint → Bool
check7 s js = links upward s.wires && (links ahead s.parts && links (λ i j. rises (joint_point i) (joint_point j)) js)

-- ---- the first broken rule
unfoldable pub check_of : Drawing → Checked
check_of d =
    let s = lists_of d in
    let ps = pads_of s.parts in
    let js = joint_rows d.joints in
    unless (check1 d) 1
    (unless (check2 s.wires) 2
    (unless (check3 s.wires ps) 3
    (unless (check4 s.wires ps) 4
    (unless_touching (touching_from 0 s.parts)
    (unless (check6 js (marks_of s)) 6
    (unless (check7 s js) 7
    (broken 0)))))))

-- a drawing is lawful where no rule is broken
abbrev pub lawful : Drawing → Bool
lawful d = eqb (check_of d).rule 0
