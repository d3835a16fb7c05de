-- What is asked is refused, or the component touches another, or it is placed.
use Prim.Native.Nat.{ℕ}
use native.Mathlib.Omega.{arith}
use mathlib.Core.Path.{◌≡◌, refl, ◌∙◌}
use Rattle.sheet.specs.declared.Drawing.{Drawing}
use Rattle.sheet.specs.declared.Tally.{Tally}
use Rattle.sheet.specs.Drawings.{lists_of}
use Rattle.sheet.proofs.Owned.{owned}
use Rattle.sheet.proofs.Rules.{lawful_good}
use Rattle.asked.specs.Asked.{AskedPart, asked_part}
use Rattle.asked.proofs.Handed.{handed_two}
use Rattle.asked.proofs.Within.{part_fits}
use Rattle.redraw.specs.declared.Edited.{Edited}
use Rattle.redraw.specs.Calls.{refused_at, refused}
use Rattle.redraw.proofs.Asking.{part_decides, part_not_asked, touched_refused, untouched_edited}
use Rattle.redraw.proofs.Finishing.{told_sound}
use Rattle.redraw.proofs.Keeping.{lawful_sound, touched_low, placed_good}
use Rattle.redraw.proofs.component.add_component_on.Goals as goal

pub first_touched-requires : goal.first_touched-requires
first_touched-requires c = (rw c.in_use.ensures c.requires.rule1.components_fit, part_fits _ _ _ _ _ (c.in-Ok.ensures ∙ handed_two (λ x y. asked_part c.args.kind c.args.orientation x y c.args.label) _ _ c.ranges.x c.ranges.y) refl)

pub overflow_cast-e : goal.overflow_cast-e
overflow_cast-e c =
    let q = rw c.in_use.ensures at c.in-Some.ensures in
    omega (arith, c.requires.rule1.component_room, touched_low c.requires (owned _ _ c.well_formed.0.1.1) c.in-Ok.c q.1 q.0)

-- a refusal with another row
told : {e : Edited} {n row : ℕ} {d : Drawing} {t : Tally} → e ≡ refused n d t → ◌≡◌ {A = Edited} (record { reply = e.reply; tally = e.tally; drawing = e.drawing; hit = e.hit; lost = e.lost; row = row }) (refused_at row n d t)
told {row = row} q = λ i. record { reply = (q i).reply; tally = (q i).tally; drawing = (q i).drawing; hit = (q i).hit; lost = (q i).lost; row = row }

pub returns-in-Some : goal.returns-in-Some
returns-in-Some c =
    let a : AskedPart = record { reply = 0; part = c.in-Ok.c } in
    let q = rw c.in_use.ensures at c.in-Some.ensures in
    told c.refused-e.ensures ∙ touched_refused _ _ a q.1 q.0 ∙ (part_decides c.args.d c.args.kind c.args.orientation _ _ c.args.label c.args.t (c.in-Ok.ensures ∙ handed_two (λ x y. asked_part c.args.kind c.args.orientation x y c.args.label) _ _ c.ranges.x c.ranges.y)).makes refl

pub place-e-requires : goal.place-e-requires
place-e-requires c = (lawful_sound c.requires (owned _ _ c.well_formed.0.1.1), part_fits _ _ _ _ _ (c.in-Ok.ensures ∙ handed_two (λ x y. asked_part c.args.kind c.args.orientation x y c.args.label) _ _ c.ranges.x c.ranges.y) refl)

pub finished-requires : goal.finished-requires
finished-requires c =
    told_sound _ (placed_good _ (lists_of c.args.d) (part_fits _ _ _ _ _ (c.in-Ok.ensures ∙ handed_two (λ x y. asked_part c.args.kind c.args.orientation x y c.args.label) _ _ c.ranges.x c.ranges.y) refl) (lawful_good c.requires) (rw c.in_use.ensures at c.in-None.ensures)).fits _ c.place-e.ensures

pub returns-in-None : goal.returns-in-None
returns-in-None c =
    let a : AskedPart = record { reply = 0; part = c.in-Ok.c } in
    c.finished.ensures _ c.place-e.ensures ∙ untouched_edited _ _ a (rw c.in_use.ensures at c.in-None.ensures) ∙ (part_decides c.args.d c.args.kind c.args.orientation _ _ c.args.label c.args.t (c.in-Ok.ensures ∙ handed_two (λ x y. asked_part c.args.kind c.args.orientation x y c.args.label) _ _ c.ranges.x c.ranges.y)).makes refl

pub returns-in-Err : goal.returns-in-Err
returns-in-Err c = part_not_asked c.args.d c.args.t c.in-Err.r c.from.ensures c.refused.ensures c.args.kind c.args.orientation c.args.label c.ranges.x c.ranges.y c.in-Err.ensures
