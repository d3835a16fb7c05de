-- The component meets the limits, so its box is that of its symbol, turned and moved.
use Rattle.sheet.specs.Parts.{box}
use Rattle.parts.proofs.box_of.Goals as goal

pub returns : goal.returns
unfolding box
returns c = c.bounds_at.ensures
