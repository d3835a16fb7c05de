-- One act.
use mathlib.Core.Path.{◌∙◌}
use Rattle.redraw.specs.Calls.{rotate_at}
use Rattle.asked.proofs.Handed.{handed_three}
use Rattle.redraw.proofs.pointer.rotate_on.Goals as goal

pub returns : goal.returns
unfolding rotate_at
returns c = c.act_on.ensures ∙ handed_three (λ x y n. rotate_at c.args.d x y n c.args.t) _ _ _ c.ranges.x c.ranges.y c.ranges.size
