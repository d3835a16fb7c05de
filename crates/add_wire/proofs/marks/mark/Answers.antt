-- A point on the wire lies at a place up to 12,000.
use mathlib.Core.Path.{sym, ◌∙◌}
use Rattle.add_wire.proofs.Marking.{on_true, more_on, more_off}
use native.Mathlib.Omega.{arith}
use Rattle.add_wire.proofs.marks.mark.Goals as goal

pub bounds-marks-at : goal.bounds-marks-at
bounds-marks-at c = omega (arith, c.along-at.ensures, (on_true _ _ (sym c.on.ensures ∙ c.if-on.true)).to)

pub returns-then-on : goal.returns-then-on
returns-then-on c = more_on _ _ c.args.marks.now (sym c.on.ensures ∙ c.if-on.true) c.along-at.ensures c.requires

pub returns-else-on : goal.returns-else-on
returns-else-on c = more_off _ _ _ (sym c.on.ensures ∙ c.if-on.false)
