-- The drawing check: "names the first broken rule in this order". Each test is that of a rule of `sheet`'s Rules, in its order; those of
-- rules 1, 2 and 7 are `limits`' and `row_order`'s.
use Rattle.std.specs.Prelude.{ℕ, suc, Bool, true, false, ◌&&◌, ◌||◌, cond, not, List, [], ◌∷◌, eqb}
use Rattle.lists.specs.Lists.{pairs}
use Rattle.std.specs.List.{list_any, list_all}
use Rattle.symbol.specs.declared.Point.{Point}
use Rattle.sheet.specs.declared.Wire.{Wire}
use Rattle.sheet.specs.declared.Component.{Component}
use Rattle.sheet.specs.declared.Joint.{Joint}
use Rattle.sheet.specs.declared.Drawing.{Drawing}
use Rattle.sheet.specs.Points.{same}
use Rattle.sheet.specs.Geometry.{ends, marks, inside}
use Rattle.sheet.specs.Joints.{joint_point, number}
use Rattle.sheet.specs.Parts.{pads_of, touches}
use Rattle.sheet.specs.Drawings.{lists_of, joint_rows, marks_of}
use Rattle.sheet.specs.Rules.{ends_at}
use Rattle.limits.specs.Limits.{check1}
use Rattle.row_order.specs.RowOrder.{check2, check7}
use Rattle.rules.specs.declared.Checked.{Checked}
use Rattle.rules.specs.Touching.{Touching, none}

-- ---- rules 3 and 4

-- the point lies strictly inside no wire
unfoldable pub free : List Wire → Point → Bool
free ws p = list_all (λ w. not (inside p w)) ws

-- rule 3: each wire end and pad is free
unfoldable pub check3 : List Wire → List Point → Bool
check3 ws ps = list_all (free ws) (marks ws ps)

-- the point holds exactly two wire ends, of direction v, and no pad
unfoldable pub bare : Bool → List Wire → List Point → Point → Bool
bare v ws ps p = eqb (ends_at v ws p) 2 && (eqb (ends_at (not v) ws p) 0 && not (list_any (same p) ps))

-- rule 4
unfoldable pub check4 : List Wire → List Point → Bool
check4 ws ps = list_all (λ p. not (bare false ws ps p || bare true ws ps p)) (ends ws)

-- ---- rule 5: "it stops at the first pair of boxes that share a point, by lower row and then higher, and tells both rows, counted from 0"

-- row i is b, and the rows from j on are cs; other is the answer if b touches none of these
unfoldable pub touching_one : ℕ → Component → ℕ → List Component → Touching → Touching
touching_one i b j [] other = other
touching_one i b j (c ∷ cs) other = cond (touches b c) (record { found = true; first = i; second = j }) (touching_one i b (suc j) cs other)

-- the first pair among the rows, which are counted from i
unfoldable pub touching_from : ℕ → List Component → Touching
touching_from i [] = none
touching_from i (c ∷ cs) = touching_one i c (suc i) cs (touching_from (suc i) cs)

-- ---- rule 6

-- rule 6: no point twice; each wire end and pad has a row; each row lies at one, and has their number
unfoldable pub check6 : List Joint → List Point → Bool
check6 js ps =
    pairs (λ i j. not (same (joint_point i) (joint_point j))) js
    && (list_all (λ p. list_any (λ j. same (joint_point j) p) js) ps
    && list_all (λ j. list_any (same (joint_point j)) ps && eqb j.count (number (joint_point j) ps)) js)

-- ---- the first broken rule

-- "for other rules the rows told are 0, 0. A lawful drawing gives rule 0 and rows 0, 0."
abbrev pub broken : ℕ → Checked
broken k = record { rule = k; first = 0; second = 0 }

-- the rule k is told if its test fails
abbrev pub unless : Bool → ℕ → Checked → Checked
unless b k other = cond b other (broken k)

-- rule 5 is told with the pair, if there is one
abbrev pub unless_touching : Touching → Checked → Checked
unless_touching t other = cond t.found (record { rule = 5; first = t.first; second = t.second }) other

-- the first broken rule from rule 5 on
unfoldable pub from_rule5 : Drawing → Checked
from_rule5 d =
    let s = lists_of d in
    let js = joint_rows d.joints in
    unless_touching (touching_from 0 s.parts)
    (unless (check6 js (marks_of s)) 6
    (unless (check7 s js) 7
    (broken 0)))

-- the first broken rule
unfoldable pub check_of : Drawing → Checked
check_of d =
    let s = lists_of d in
    let ps = pads_of s.parts in
    unless (check1 d) 1
    (unless (check2 s.wires) 2
    (unless (check3 s.wires ps) 3
    (unless (check4 s.wires ps) 4
    (from_rule5 d))))

-- a drawing is lawful where no rule is broken
abbrev pub lawful : Drawing → Bool
lawful d = eqb (check_of d).rule 0
