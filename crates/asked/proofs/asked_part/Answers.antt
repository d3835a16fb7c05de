-- `asked::asked_part` meets its contract: nothing of it is refused.
use mathlib.Core.Path.{sym, ◌∙◌}
use Rattle.asked.proofs.Asked.{part_right}
use Rattle.asked.proofs.asked_part.Goals as goal

pub returns : goal.returns
returns c =
    part_right c.args.kind c.args.orientation c.args.x c.args.y c.args.label (sym c.is_known.ensures ∙ c.if-not-is_known.false) c.ranges.x c.ranges.y c.in_ok-a.ensures c.in_ok-b.ensures c.in_ok-bytes.ensures
