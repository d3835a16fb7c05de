-- `netlist::loose` meets its contract: the drawing is checked, and then its loose points are counted.
use mathlib.Core.Path.{refl, ap}
use Rattle.sheet.proofs.Owned.{owned}
use Rattle.netlist.specs.Answers.{loose_count, loose_answer}
use Rattle.rules.proofs.Found.{lawful_found, found_passes, found_fails}
use Rattle.netlist.proofs.loose.Goals as goal

pub returns-then-c-ne0 : goal.returns-then-c-ne0
unfolding loose_answer
returns-then-c-ne0 c = rw (found_fails c.args.d c.check-c.ensures c.if-c-ne0.true) refl

pub loose_on-count-requires : goal.loose_on-count-requires
loose_on-count-requires c = lawful_found c.args.d c.check-c.ensures (owned c.args.d _ c.well_formed.0.1.1) c.if-c-ne0.false

pub returns : goal.returns
unfolding loose_answer
returns c = rw (found_passes c.args.d c.check-c.ensures c.if-c-ne0.false) (ap (loose_count 0) c.loose_on-count.ensures)
