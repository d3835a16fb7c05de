-- `component::component_pads` meets its contract: what its calls ensure, put together over the whole numbers.
use mathlib.Core.Path.{◌∙◌}
use Rattle.component.proofs.Answers.{pads_granted, pads_are, pads_answered}
use Rattle.component.proofs.component_pads.Goals as goal

pub returns : goal.returns
returns c =
    let z = c.in_ok-granted.ensures ∙ pads_granted c.args.kind c.args.orientation c.held-at_x.result c.held-at_y.result c.pads-r.result c.pads-r.ensures in
    pads_answered c.args.kind c.args.orientation c.args.x c.args.y c.ranges.x c.ranges.y c.held-at_x.result c.held-at_y.result c.held-at_x.ensures c.held-at_y.ensures
    c.pads-r.result.pads c.shown-first.result c.shown-second.result c.shown-third.result
    z (pads_are c.args.kind c.args.orientation c.held-at_x.result c.held-at_y.result c.pads-r.result c.pads-r.ensures z) c.shown-first.ensures c.shown-second.ensures c.shown-third.ensures
