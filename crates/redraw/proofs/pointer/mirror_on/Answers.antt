-- One act.
use mathlib.Core.Path.{◌∙◌}
use Rattle.redraw.specs.Calls.{mirror_at}
use Rattle.asked.proofs.Handed.{handed_three}
use Rattle.redraw.proofs.pointer.mirror_on.Goals as goal

pub returns : goal.returns
unfolding mirror_at
returns c = c.act_on.ensures ∙ handed_three (λ x y n. mirror_at c.args.d x y n c.args.t) _ _ _ c.ranges.x c.ranges.y c.ranges.size
