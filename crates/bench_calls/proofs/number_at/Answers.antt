-- Past the end it is the default.
use mathlib.Core.Path.{sym}
use lib.ListN.{get_or-eq_default}
use lib.IntN.{pos}
use Rattle.bench_calls.proofs.number_at.Goals as goal

pub returns-else-i-numbers : goal.returns-else-i-numbers
returns-else-i-numbers c = sym (get_or-eq_default c.args.numbers.now (pos 0) c.if-i-numbers.false)
