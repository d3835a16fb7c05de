-- By the number.
use mathlib.Core.Path.{◌∙◌}
use Rattle.bench_calls.proofs.Filing.{by_saved, by_back}
use Rattle.bench_calls.proofs.files.file_answer.Goals as goal

pub returns-then-call-lt19 : goal.returns-then-call-lt19
returns-then-call-lt19 c = c.saved_byte.ensures ∙ by_saved c.args.call c.args.d c.args.last c.if-call-lt19.true

pub returns : goal.returns
returns c = c.back_reply.ensures ∙ by_back c.args.call c.args.d c.args.last c.if-call-lt19.false
