-- The kind and the orientation are told by the number.
use Prim.Native.Nat.{◌/◌, ◌%◌, ◌-◌}
use mathlib.Core.Path.{ap, ◌∙◌}
use Rattle.asked.proofs.Handed.{handed_two}
use Rattle.redraw.specs.Calls.{add_component}
use Rattle.schematic.specs.Calls.{checked}
use Rattle.bench_calls.proofs.Numbers.{placed}
use Rattle.bench_calls.proofs.editing.place_checked.Goals as goal

pub returns : goal.returns
returns c =
    c.add_component.ensures
    ∙ handed_two (λ x y. checked c.args.d c.args.t (add_component c.args.d (c.args.what / 8 - 1) (c.args.what % 8) x y c.k_label-l.result c.args.t)) _ _ c.ranges.x c.ranges.y
    ∙ ap (checked c.args.d c.args.t) (placed c.args.what c.args.x c.args.y c.args.d c.args.t c.k_label-l.ensures)
