-- One act.
use mathlib.Core.Path.{◌∙◌}
use Rattle.redraw.specs.Calls.{delete_at}
use Rattle.asked.proofs.Handed.{handed_three}
use Rattle.redraw.proofs.pointer.delete_on.Goals as goal

pub returns : goal.returns
unfolding delete_at
returns c = c.act_on.ensures ∙ handed_three (λ x y n. delete_at c.args.d x y n c.args.t) _ _ _ c.ranges.x c.ranges.y c.ranges.size
