-- If the wire is in its range.
use mathlib.Core.Bool.{false}
use mathlib.Core.Path.{refl, ◌∙◌}
use native.Mathlib.Omega.{arith}
use Rattle.refusal.proofs.Numbers.{refuses}
use Rattle.sheet.proofs.Owned.{owned}
use Rattle.asked.specs.Asked.{asked_wire}
use Rattle.asked.proofs.Handed.{handed_three}
use Rattle.asked.proofs.Within.{wire_drawable}
use Rattle.redraw.proofs.Keeping.{lawful_sound}
use Rattle.bench_calls.proofs.Rowing.{laid_refused, laid_rows}
use Rattle.bench_calls.proofs.tables.laid_answer.Goals as goal

pub returns-in-Err : goal.returns-in-Err
returns-in-Err c = laid_refused c.args.x c.args.y c.args.z c.args.d (c.in-Err.ensures ∙ handed_three (asked_wire false) _ _ _ c.ranges.x c.ranges.y c.ranges.z) (λ e. let h = refuses c.in-Err.field-0 in omega (arith, h, e))

pub laid_rows-requires : goal.laid_rows-requires
laid_rows-requires c = (c.requires.rule1.wire_room, ((lawful_sound c.requires (owned _ _ c.well_formed.0.1.1)).fits, (wire_drawable _ _ _ _ (c.in-Ok.ensures ∙ handed_three (asked_wire false) _ _ _ c.ranges.x c.ranges.y c.ranges.z) refl).end))

pub returns : goal.returns
returns c = c.laid_rows.ensures ∙ laid_rows c.args.x c.args.y c.args.z c.args.d (c.in-Ok.ensures ∙ handed_three (asked_wire false) _ _ _ c.ranges.x c.ranges.y c.ranges.z) refl
