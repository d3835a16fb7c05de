-- By the number, if the pointer is in its range.
use mathlib.Core.Path.{refl, ◌∙◌}
use native.Mathlib.Omega.{arith}
use Rattle.refusal.proofs.Numbers.{refuses}
use Rattle.sheet.proofs.Owned.{owned}
use Rattle.asked.specs.Asked.{asked_pointer}
use Rattle.asked.proofs.Handed.{handed_three}
use Rattle.asked.proofs.Within.{pointer_near}
use Rattle.redraw.proofs.Keeping.{lawful_sound}
use Rattle.bench_calls.proofs.Rowing.{pointed_refused, pointed_split, pointed_wires, pointed_parts}
use Rattle.bench_calls.proofs.tables.pointed_answer.Goals as goal

pub returns-in-Err : goal.returns-in-Err
returns-in-Err c = pointed_refused c.args.call c.args.x c.args.y c.args.z c.args.d (c.in-Err.ensures ∙ handed_three (asked_pointer) _ _ _ c.ranges.x c.ranges.y c.ranges.z) (λ e. let h = refuses c.in-Err.field-0 in omega (arith, h, e))

pub split_rows-requires : goal.split_rows-requires
split_rows-requires c = c.requires.rule1.wire_room

pub returns-then-call-eq8 : goal.returns-then-call-eq8
returns-then-call-eq8 c = c.split_rows.ensures ∙ pointed_split c.args.call c.args.x c.args.y c.args.z c.args.d (c.in-Ok.ensures ∙ handed_three (asked_pointer) _ _ _ c.ranges.x c.ranges.y c.ranges.z) refl c.if-call-eq8.true

pub unhit_row-requires : goal.unhit_row-requires
unhit_row-requires c = let n = pointer_near _ _ _ (c.in-Ok.ensures ∙ handed_three (asked_pointer) _ _ _ c.ranges.x c.ranges.y c.ranges.z) refl in (c.requires.rule1.wire_room, (n.x, (n.y, n.size)))

pub returns-then-call-eq9 : goal.returns-then-call-eq9
returns-then-call-eq9 c = c.unhit_row.ensures ∙ pointed_wires c.args.call c.args.x c.args.y c.args.z c.args.d (c.in-Ok.ensures ∙ handed_three (asked_pointer) _ _ _ c.ranges.x c.ranges.y c.ranges.z) refl c.if-call-eq8.false c.if-call-eq9.true

pub unmet_row-requires : goal.unmet_row-requires
unmet_row-requires c = let n = pointer_near _ _ _ (c.in-Ok.ensures ∙ handed_three (asked_pointer) _ _ _ c.ranges.x c.ranges.y c.ranges.z) refl in ((lawful_sound c.requires (owned _ _ c.well_formed.1.0.1.1)).fits, (n.x, (n.y, n.size)))

pub returns : goal.returns
returns c = c.unmet_row.ensures ∙ pointed_parts c.args.call c.args.x c.args.y c.args.z c.args.d (c.in-Ok.ensures ∙ handed_three (asked_pointer) _ _ _ c.ranges.x c.ranges.y c.ranges.z) refl c.if-call-eq8.false c.if-call-eq9.false
