-- The pads are those of the components.
use Rattle.std.proofs.Common.{ap, ◌∙◌}
use Rattle.lists.proofs.Tables.{holds_as}
use Rattle.sheet.specs.Merge.{merge}
use Rattle.edits.proofs.delete.settled.Goals as goal

pub returns : goal.returns
returns c = holds_as (ap (merge c.args.ws.now) (c.in_use.ensures ∙ c.all_pads-pads.ensures.points_are)) c.merge.ensures
