-- `component::component_box` meets its contract: what its calls ensure, put together over the whole numbers.
use mathlib.Core.Path.{◌∙◌}
use Rattle.component.proofs.Answers.{box_granted, box_is, box_answered}
use Rattle.component.proofs.component_box.Goals as goal

pub returns : goal.returns
returns c =
    let z = c.in_ok-granted.ensures ∙ box_granted c.args.kind c.args.orientation c.held-at_x.result c.held-at_y.result c.aabb-r.result c.aabb-r.ensures in
    box_answered c.args.kind c.args.orientation c.args.x c.args.y c.ranges.x c.ranges.y c.held-at_x.result c.held-at_y.result c.held-at_x.ensures c.held-at_y.ensures
    c.aabb-r.result.bounds c.shown-low.result c.shown-high.result
    z (box_is c.args.kind c.args.orientation c.held-at_x.result c.held-at_y.result c.aabb-r.result c.aabb-r.ensures z) c.shown-low.ensures c.shown-high.ensures
