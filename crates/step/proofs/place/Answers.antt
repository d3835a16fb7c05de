-- `step::place` meets its contract: the edit of the numbers as they are chosen.
use mathlib.Core.Path.{◌∙◌}
use Rattle.step.proofs.Choosing.{placed_is}
use Rattle.step.proofs.place.Goals as goal

pub returns : goal.returns
returns c =
    c.add_component_on.ensures ∙ placed_is _ _ _ _ _ _ _ c.ranges.kind c.ranges.orient c.ranges.x c.ranges.y
    c.choice.ensures c.choice-2.ensures c.label_of.ensures
