-- The joints of a lawful drawing are those of its wires and components.
use mathlib.Core.Path.{ap}
use Rattle.sheet.specs.declared.Drawing.{Drawing}
use Rattle.sheet.specs.Drawings.{Sized, drawn}
use Rattle.sheet.specs.Rules.{Lawful}
use Rattle.sheet.proofs.Rules.{lawful_drawn}
use Rattle.joints.specs.Tables.{Counted}

pub lawful_counted : {d : Drawing} → Lawful d → Sized d → Counted d
unfolding drawn
lawful_counted {d} l z = record { wires = l.rule1.wire_room; parts = l.rule1.component_room; joints_are = ap (λ (e : Drawing). e.joints) (lawful_drawn l z) }
