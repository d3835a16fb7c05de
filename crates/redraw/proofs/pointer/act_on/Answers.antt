-- What is asked is refused, or the act is made.
use mathlib.Core.Path.{refl, ◌∙◌}
use Rattle.sheet.specs.Drawings.{lists_of}
use Rattle.sheet.proofs.Owned.{owned}
use Rattle.sheet.proofs.Rules.{lawful_good}
use Rattle.asked.specs.Asked.{asked_pointer}
use Rattle.asked.proofs.Handed.{handed_three}
use Rattle.asked.proofs.Within.{pointer_near}
use Rattle.redraw.specs.Acts.{acted}
use Rattle.redraw.proofs.Asking.{pointer_decides, pointer_not_asked}
use Rattle.redraw.proofs.Finishing.{told_sound}
use Rattle.redraw.proofs.Keeping.{lawful_sound, acted_good, near_pointed}
use Rattle.redraw.proofs.pointer.act_on.Goals as goal

pub returns-in-Err : goal.returns-in-Err
returns-in-Err c =
    pointer_not_asked c.args.d c.args.t c.in-Err.r c.from.ensures c.refused.ensures (λ p n. acted c.args.act p n (lists_of c.args.d)) c.ranges.x c.ranges.y c.ranges.size c.in-Err.ensures

pub acted-e-requires : goal.acted-e-requires
acted-e-requires c =
    (lawful_sound c.requires (owned _ _ c.well_formed.0.1.1), near_pointed (pointer_near _ _ _ (c.in-Ok.ensures ∙ handed_three asked_pointer _ _ _ c.ranges.x c.ranges.y c.ranges.size) refl))

pub finished-requires : goal.finished-requires
finished-requires c =
    told_sound _ (acted_good c.args.act _ _ (lists_of c.args.d) (lawful_good c.requires)).fits _ c.acted-e.ensures

pub returns : goal.returns
returns c =
    c.finished.ensures _ c.acted-e.ensures ∙ (pointer_decides c.args.d _ _ _ c.args.t (λ p n. acted c.args.act p n (lists_of c.args.d)) (c.in-Ok.ensures ∙ handed_three asked_pointer _ _ _ c.ranges.x c.ranges.y c.ranges.size)).makes refl
