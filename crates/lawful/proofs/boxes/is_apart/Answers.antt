-- A component far from the box along x does not touch it, and else the boxes tell.
use mathlib.Core.Bool.{◌||◌, not}
use mathlib.Core.Path.{ap, sym, ◌∙◌}
use Rattle.lawful.proofs.Touching.{beside, untouched}
use Rattle.lawful.proofs.boxes.is_apart.Goals as goal

pub returns-then-is_far : goal.returns-then-is_far
returns-then-is_far c = λ e. beside _ c.requires (sym (λ i. c.is_far.ensures i || c.is_far-2.ensures i) ∙ c.if-is_far.true)

pub returns : goal.returns
returns c = λ e. untouched _ c.box_of-q.ensures (ap not (sym c.touches.ensures) ∙ e)
