-- By the number.
use mathlib.Core.Path.{◌∙◌}
use Rattle.asked.proofs.Handed.{handed_two, handed_three}
use Rattle.bench_calls.specs.Tables.{pointed_answer, laid_answer, inserted_answer}
use Rattle.bench_calls.proofs.Rowing.{by_pointer, by_laid, by_inserted, by_whole}
use Rattle.bench_calls.proofs.tables.table_answer.Goals as goal

pub returns-then-call-lt11 : goal.returns-then-call-lt11
returns-then-call-lt11 c =
    c.pointed_answer.ensures ∙ handed_three (λ x y z. pointed_answer c.args.call x y z c.args.d) _ _ _ c.ranges.x c.ranges.y c.ranges.z ∙ by_pointer c.args.call c.args.d c.args.x c.args.y c.args.z c.if-call-lt11.true

pub returns-then-call-eq11 : goal.returns-then-call-eq11
returns-then-call-eq11 c =
    c.laid_answer.ensures ∙ handed_three (λ x y z. laid_answer x y z c.args.d) _ _ _ c.ranges.x c.ranges.y c.ranges.z ∙ by_laid c.args.call c.args.d c.args.x c.args.y c.args.z c.if-call-lt11.false c.if-call-eq11.true

pub returns-then-call-eq12 : goal.returns-then-call-eq12
returns-then-call-eq12 c =
    c.inserted_answer.ensures ∙ handed_two (λ x y. inserted_answer x y c.args.d) _ _ c.ranges.x c.ranges.y ∙ by_inserted c.args.call c.args.d c.args.x c.args.y c.args.z c.if-call-lt11.false c.if-call-eq11.false c.if-call-eq12.true

pub returns : goal.returns
returns c = c.whole_answer.ensures ∙ by_whole c.args.call c.args.d c.args.x c.args.y c.args.z c.if-call-lt11.false c.if-call-eq11.false c.if-call-eq12.false
