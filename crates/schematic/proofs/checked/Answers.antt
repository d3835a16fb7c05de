-- The check, and then the edit.
use Rattle.std.proofs.Common.{◌∙◌}
use Rattle.sheet.proofs.Owned.{owned}
use Rattle.rules.proofs.Found.{lawful_found}
use Rattle.schematic.proofs.Checking.{unlawful_refused, lawful_edited}
use Rattle.schematic.proofs.checked.Goals as goal

pub returns-then-check-ne0 : goal.returns-then-check-ne0
returns-then-check-ne0 g c = λ e h. c.refused.ensures ∙ unlawful_refused c.args.d c.check.ensures c.args.t e c.if-check-ne0.true

pub edit-requires : goal.edit-requires
edit-requires g c = c.requires (lawful_found c.args.d c.check.ensures (owned _ _ c.well_formed.0.1.1) c.if-check-ne0.false)

pub returns : goal.returns
returns g c = λ e h. h _ c.edit.ensures ∙ lawful_edited c.args.d c.check.ensures c.args.t e c.if-check-ne0.false
