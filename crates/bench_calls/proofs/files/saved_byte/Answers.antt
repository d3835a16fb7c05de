-- A byte of what was written.
use mathlib.Core.Path.{◌∙◌}
use Rattle.bench_calls.proofs.Filing.{saved_checked, saved_lawful}
use Rattle.bench_calls.proofs.files.saved_byte.Goals as goal

pub returns-then-call-eq17 : goal.returns-then-call-eq17
returns-then-call-eq17 c = c.number_of_byte.ensures ∙ saved_checked c.args.call c.args.d c.args.last c.if-call-eq17.true c.save.ensures.written

pub returns : goal.returns
returns c = c.number_of_byte-2.ensures ∙ saved_lawful c.args.call c.args.d c.args.last c.if-call-eq17.false c.save_on.ensures.written
