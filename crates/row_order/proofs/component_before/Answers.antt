-- By y, and then by x.
use Rattle.std.proofs.Common.{◌∙◌}
use Rattle.sheet.specs.Parts.{position}
use Rattle.sheet.proofs.Points.{rises_by_pairs}
use Rattle.row_order.proofs.component_before.Goals as goal

pub returns : goal.returns
returns c = c.lt.ensures ∙ rises_by_pairs (position c.args.a) (position c.args.b)
