-- By the number of the edit.
use mathlib.Core.Bool.{true, false}
use mathlib.Core.Path.{ap, ◌∙◌}
use Rattle.asked.proofs.Handed.{handed_two, handed_three}
use Rattle.redraw.specs.Calls.{add_wire, delete_at, rotate_at, mirror_at}
use Rattle.schematic.specs.Calls.{checked}
use Rattle.bench_calls.specs.Numbered.{place_by}
use Rattle.bench_calls.proofs.Numbers.{is_place, is_across, is_upright, is_delete, is_turn, is_mirror}
use Rattle.bench_calls.proofs.editing.edit_checked.Goals as goal

pub returns-then-what-ge8 : goal.returns-then-what-ge8
returns-then-what-ge8 c =
    c.place_checked.ensures ∙ handed_two (λ x y. checked c.args.d c.args.t (place_by c.args.what x y c.args.d c.args.t)) _ _ c.ranges.x c.ranges.y
    ∙ ap (checked c.args.d c.args.t) (is_place c.args.what c.args.x c.args.y c.args.d c.args.t c.args.z c.if-what-ge8.true)

pub returns-then-what-eq0 : goal.returns-then-what-eq0
returns-then-what-eq0 c =
    c.add_wire.ensures ∙ handed_three (λ x y z. checked c.args.d c.args.t (add_wire c.args.d false x y z c.args.t)) _ _ _ c.ranges.x c.ranges.y c.ranges.z
    ∙ ap (checked c.args.d c.args.t) (is_across c.args.what c.args.x c.args.y c.args.d c.args.t c.args.z c.if-what-eq0.true)

pub returns-then-what-eq1 : goal.returns-then-what-eq1
returns-then-what-eq1 c =
    c.add_wire-then-what-eq1.ensures ∙ handed_three (λ x y z. checked c.args.d c.args.t (add_wire c.args.d true x y z c.args.t)) _ _ _ c.ranges.x c.ranges.y c.ranges.z
    ∙ ap (checked c.args.d c.args.t) (is_upright c.args.what c.args.x c.args.y c.args.d c.args.t c.args.z c.if-what-eq1.true)

pub returns-then-what-eq2 : goal.returns-then-what-eq2
returns-then-what-eq2 c =
    c.delete_at_point.ensures ∙ handed_three (λ x y z. checked c.args.d c.args.t (delete_at c.args.d x y z c.args.t)) _ _ _ c.ranges.x c.ranges.y c.ranges.z
    ∙ ap (checked c.args.d c.args.t) (is_delete c.args.what c.args.x c.args.y c.args.d c.args.t c.args.z c.if-what-eq2.true)

pub returns-then-what-eq3 : goal.returns-then-what-eq3
returns-then-what-eq3 c =
    c.rotate_component_at_point.ensures ∙ handed_three (λ x y z. checked c.args.d c.args.t (rotate_at c.args.d x y z c.args.t)) _ _ _ c.ranges.x c.ranges.y c.ranges.z
    ∙ ap (checked c.args.d c.args.t) (is_turn c.args.what c.args.x c.args.y c.args.d c.args.t c.args.z c.if-what-eq3.true)

pub returns : goal.returns
returns c =
    c.mirror_component_at_point.ensures ∙ handed_three (λ x y z. checked c.args.d c.args.t (mirror_at c.args.d x y z c.args.t)) _ _ _ c.ranges.x c.ranges.y c.ranges.z
    ∙ ap (checked c.args.d c.args.t) (is_mirror c.args.what c.args.x c.args.y c.args.d c.args.t c.args.z c.if-what-ge8.false c.if-what-eq0.false c.if-what-eq1.false c.if-what-eq2.false c.if-what-eq3.false)
