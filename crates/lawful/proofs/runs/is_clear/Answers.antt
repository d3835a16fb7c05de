-- The ends are those of the wire, and the rest of the test is its definition.
use mathlib.Core.Bool.{◌&&◌, ◌||◌, not}
use mathlib.Core.Path.{◌≡◌, ap, ◌∙◌}
use lib.Dec.{eqb}
use Rattle.sheet.specs.Points.{same}
use Rattle.sheet.specs.Geometry.{low, high, tip}
use Rattle.sheet.specs.Joints.{joint_point}
use Rattle.lawful.specs.Looks.{clears}
use Rattle.lawful.proofs.runs.is_clear.Goals as goal

pub returns : goal.returns
unfolding clears
returns c =
    let g = c.goes_on.ensures in
    let t = c in
    let s = t in
    let x = s.args in
    let low_end : s.same.result ≡ same (joint_point x.i) (tip low x.w) = s.same.ensures ∙ ap (same (joint_point x.i)) s.low_tip.ensures in
    let high_end : t.same-2.result ≡ same (joint_point x.j) (tip high x.w) = t.same-2.ensures ∙ ap (same (joint_point x.j)) t.high_tip.ensures in
    λ k. (low_end k && high_end k) && (not (g k) || not (eqb x.i.count 2))
