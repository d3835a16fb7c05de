-- By the number of the edit.
use mathlib.Core.Bool.{true, false}
use mathlib.Core.Path.{◌∙◌}
use Rattle.asked.proofs.Handed.{handed_two, handed_three}
use Rattle.redraw.specs.Calls.{add_wire, delete_at, rotate_at, mirror_at}
use Rattle.bench_calls.specs.Numbered.{place_by}
use Rattle.bench_calls.proofs.Numbers.{is_place, is_across, is_upright, is_delete, is_turn, is_mirror}
use Rattle.bench_calls.proofs.editing.edit_on.Goals as goal

pub returns-then-what-ge8 : goal.returns-then-what-ge8
returns-then-what-ge8 c =
    c.place_on.ensures ∙ handed_two (λ x y. place_by c.args.what x y c.args.d c.args.t) _ _ c.ranges.x c.ranges.y
    ∙ is_place c.args.what c.args.x c.args.y c.args.d c.args.t c.args.z c.if-what-ge8.true

pub returns-then-what-eq0 : goal.returns-then-what-eq0
returns-then-what-eq0 c =
    c.add_wire_on.ensures ∙ handed_three (λ x y z. add_wire c.args.d false x y z c.args.t) _ _ _ c.ranges.x c.ranges.y c.ranges.z
    ∙ is_across c.args.what c.args.x c.args.y c.args.d c.args.t c.args.z c.if-what-eq0.true

pub returns-then-what-eq1 : goal.returns-then-what-eq1
returns-then-what-eq1 c =
    c.add_wire_on-then-what-eq1.ensures ∙ handed_three (λ x y z. add_wire c.args.d true x y z c.args.t) _ _ _ c.ranges.x c.ranges.y c.ranges.z
    ∙ is_upright c.args.what c.args.x c.args.y c.args.d c.args.t c.args.z c.if-what-eq1.true

pub returns-then-what-eq2 : goal.returns-then-what-eq2
returns-then-what-eq2 c =
    c.delete_on.ensures ∙ handed_three (λ x y z. delete_at c.args.d x y z c.args.t) _ _ _ c.ranges.x c.ranges.y c.ranges.z
    ∙ is_delete c.args.what c.args.x c.args.y c.args.d c.args.t c.args.z c.if-what-eq2.true

pub returns-then-what-eq3 : goal.returns-then-what-eq3
returns-then-what-eq3 c =
    c.rotate_on.ensures ∙ handed_three (λ x y z. rotate_at c.args.d x y z c.args.t) _ _ _ c.ranges.x c.ranges.y c.ranges.z
    ∙ is_turn c.args.what c.args.x c.args.y c.args.d c.args.t c.args.z c.if-what-eq3.true

pub returns : goal.returns
returns c =
    c.mirror_on.ensures ∙ handed_three (λ x y z. mirror_at c.args.d x y z c.args.t) _ _ _ c.ranges.x c.ranges.y c.ranges.z
    ∙ is_mirror c.args.what c.args.x c.args.y c.args.d c.args.t c.args.z c.if-what-ge8.false c.if-what-eq0.false c.if-what-eq1.false c.if-what-eq2.false c.if-what-eq3.false
