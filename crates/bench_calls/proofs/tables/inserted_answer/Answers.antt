-- If there is room.
use mathlib.Core.Path.{ap, ◌∙◌}
use Rattle.sheet.proofs.Owned.{owned}
use Rattle.asked.specs.Asked.{AskedPart}
use Rattle.asked.specs.Asked.{asked_part}
use Rattle.asked.proofs.Handed.{handed_two}
use Rattle.redraw.proofs.Keeping.{lawful_sound}
use Rattle.bench_calls.proofs.Rowing.{row_told, inserted_full, inserted_row}
use Rattle.bench_calls.proofs.tables.inserted_answer.Goals as goal

pub returns-then-cs-ge128 : goal.returns-then-cs-ge128
returns-then-cs-ge128 c = inserted_full c.args.x c.args.y c.args.d c.if-cs-ge128.true

pub inserted_row-requires : goal.inserted_row-requires
inserted_row-requires c = ((lawful_sound c.requires (owned _ _ c.well_formed.0.1.1)).parts, c.if-cs-ge128.false)

pub returns : goal.returns
returns c = c.inserted_row.ensures ∙ inserted_row c.args.x c.args.y c.args.d (c.unwrap_or-c.ensures ∙ row_told c.asked_part.result ∙ ap (λ (a : AskedPart). a.part) (c.asked_part.ensures ∙ handed_two (λ x y. asked_part 1 0 x y c.k_label-l.result) _ _ c.ranges.x c.ranges.y ∙ (λ i. asked_part 1 0 c.args.x c.args.y (c.k_label-l.ensures i)))) c.if-cs-ge128.false
