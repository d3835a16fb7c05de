-- By the number of the call.
use mathlib.Core.Path.{◌∙◌}
use Rattle.asked.proofs.Handed.{handed_three}
use Rattle.bench_calls.specs.Tables.{table_answer}
use Rattle.bench_calls.specs.Timed.{edit_answer}
use Rattle.bench_calls.proofs.Timing.{by_edit, by_check, by_list, by_loose, by_table, by_file}
use Rattle.bench_calls.proofs.answers.answer.Goals as goal

pub returns-then-call-lt2 : goal.returns-then-call-lt2
returns-then-call-lt2 c =
    c.edit_answer.ensures ∙ handed_three (λ x y z. edit_answer c.args.call c.args.what x y z c.args.d c.args.last) _ _ _ c.ranges.x c.ranges.y c.ranges.z
    ∙ by_edit c.args.call c.args.what c.args.x c.args.y c.args.z c.args.d c.args.last c.if-call-lt2.true

pub returns-then-call-lt4 : goal.returns-then-call-lt4
returns-then-call-lt4 c = c.check_answer.ensures ∙ by_check c.args.call c.args.what c.args.x c.args.y c.args.z c.args.d c.args.last c.if-call-lt2.false c.if-call-lt4.true

pub returns-then-call-lt6 : goal.returns-then-call-lt6
returns-then-call-lt6 c = c.list_answer.ensures ∙ by_list c.args.call c.args.what c.args.x c.args.y c.args.z c.args.d c.args.last c.if-call-lt2.false c.if-call-lt4.false c.if-call-lt6.true

pub returns-then-call-lt8 : goal.returns-then-call-lt8
returns-then-call-lt8 c = c.loose_answer.ensures ∙ by_loose c.args.call c.args.what c.args.x c.args.y c.args.z c.args.d c.args.last c.if-call-lt2.false c.if-call-lt4.false c.if-call-lt6.false c.if-call-lt8.true

pub returns-then-call-lt17 : goal.returns-then-call-lt17
returns-then-call-lt17 c =
    c.table_answer.ensures ∙ handed_three (λ x y z. table_answer c.args.call x y z c.args.d) _ _ _ c.ranges.x c.ranges.y c.ranges.z
    ∙ by_table c.args.call c.args.what c.args.x c.args.y c.args.z c.args.d c.args.last c.if-call-lt2.false c.if-call-lt4.false c.if-call-lt6.false c.if-call-lt8.false c.if-call-lt17.true

pub returns : goal.returns
returns c =
    c.file_answer.ensures ∙ by_file c.args.call c.args.what c.args.x c.args.y c.args.z c.args.d c.args.last c.if-call-lt2.false c.if-call-lt4.false c.if-call-lt6.false c.if-call-lt8.false c.if-call-lt17.false
