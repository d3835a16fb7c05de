-- The kind and the orientation are told by the number.
use Prim.Native.Nat.{◌/◌, ◌%◌, ◌-◌}
use mathlib.Core.Path.{◌∙◌}
use Rattle.asked.proofs.Handed.{handed_two}
use Rattle.redraw.specs.Calls.{add_component}
use Rattle.bench_calls.proofs.Numbers.{placed}
use Rattle.bench_calls.proofs.editing.place_on.Goals as goal

pub returns : goal.returns
returns c =
    c.add_component_on.ensures
    ∙ handed_two (λ x y. add_component c.args.d (c.args.what / 8 - 1) (c.args.what % 8) x y c.k_label-l.result c.args.t) _ _ c.ranges.x c.ranges.y
    ∙ placed c.args.what c.args.x c.args.y c.args.d c.args.t c.k_label-l.ensures
