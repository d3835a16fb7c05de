-- By the number of the call.
use mathlib.Core.Path.{◌∙◌}
use Rattle.asked.proofs.Handed.{handed_three}
use Rattle.schematic.specs.Calls.{checked}
use Rattle.bench_calls.specs.Numbered.{edit_of}
use Rattle.bench_calls.proofs.Timing.{edited_on, edited_checked}
use Rattle.bench_calls.proofs.answers.edit_answer.Goals as goal

pub returns-then-call-eq0 : goal.returns-then-call-eq0
returns-then-call-eq0 c = let u = c.tally_of-t in
    edited_on c.args.call c.args.what c.args.x c.args.y c.args.z c.args.d c.args.last u.ensures c.if-call-eq0.true
    (c.edit_on-e.ensures ∙ handed_three (λ x y z. edit_of c.args.what x y z c.args.d u.result) _ _ _ c.ranges.x c.ranges.y c.ranges.z)

pub returns : goal.returns
returns c = let u = c.tally_of-t in
    edited_checked c.args.call c.args.what c.args.x c.args.y c.args.z c.args.d c.args.last u.ensures c.if-call-eq0.false
    (c.edit_checked-e.ensures ∙ handed_three (λ x y z. checked c.args.d u.result (edit_of c.args.what x y z c.args.d u.result)) _ _ _ c.ranges.x c.ranges.y c.ranges.z)
