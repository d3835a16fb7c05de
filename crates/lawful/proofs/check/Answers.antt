-- A drawing that passes is lawful; the plain check tells of any other.
use mathlib.Core.Path.{◌∙◌}
use Rattle.rules.proofs.Check.{lawful_none}
use Rattle.lawful.proofs.check.Goals as goal

pub returns-then-all_right : goal.returns-then-all_right
returns-then-all_right c = c.broken_rule.ensures ∙ lawful_none (c.all_right.ensures c.if-all_right.true)
