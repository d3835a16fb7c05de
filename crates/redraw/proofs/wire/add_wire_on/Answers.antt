-- What is asked is refused, or the wire is drawn.
use mathlib.Core.Path.{refl, ◌∙◌}
use Rattle.sheet.specs.Drawings.{lists_of}
use Rattle.sheet.proofs.Owned.{owned}
use Rattle.sheet.proofs.Rules.{lawful_good}
use Rattle.sheet.proofs.Edits.{wire_good}
use Rattle.asked.specs.Asked.{asked_wire}
use Rattle.asked.proofs.Handed.{handed_three}
use Rattle.asked.proofs.Within.{wire_drawable}
use Rattle.redraw.proofs.Asking.{wire_decides, wire_not_asked}
use Rattle.redraw.proofs.Finishing.{told_sound}
use Rattle.redraw.proofs.Keeping.{lawful_sound}
use Rattle.redraw.proofs.wire.add_wire_on.Goals as goal

pub draw-e-requires : goal.draw-e-requires
draw-e-requires c =
    (lawful_sound c.requires (owned _ _ c.well_formed.0.1.1), (wire_drawable _ _ _ _ (c.in-Ok.ensures ∙ handed_three (asked_wire c.args.vertical) _ _ _ c.ranges.line c.ranges.start c.ranges.end) refl).end)

pub finished-requires : goal.finished-requires
finished-requires c =
    told_sound _ (wire_good _ (lists_of c.args.d) (wire_drawable _ _ _ _ (c.in-Ok.ensures ∙ handed_three (asked_wire c.args.vertical) _ _ _ c.ranges.line c.ranges.start c.ranges.end) refl) (lawful_good c.requires)).fits _ c.draw-e.ensures

pub returns : goal.returns
returns c =
    c.finished.ensures _ c.draw-e.ensures ∙ (wire_decides c.args.d c.args.vertical _ _ _ c.args.t (c.in-Ok.ensures ∙ handed_three (asked_wire c.args.vertical) _ _ _ c.ranges.line c.ranges.start c.ranges.end)).makes refl

pub returns-in-Err : goal.returns-in-Err
returns-in-Err c = wire_not_asked c.args.d c.args.t c.in-Err.r c.from.ensures c.refused.ensures c.args.vertical c.ranges.line c.ranges.start c.ranges.end c.in-Err.ensures
