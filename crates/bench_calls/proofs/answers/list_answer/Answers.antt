-- A byte of what was written.
use mathlib.Core.Path.{◌∙◌}
use Rattle.bench_calls.proofs.Timing.{list_lawful, list_checked}
use Rattle.bench_calls.proofs.answers.list_answer.Goals as goal

pub returns-then-call-eq4 : goal.returns-then-call-eq4
returns-then-call-eq4 c = c.number_of_byte.ensures ∙ list_lawful c.args.call c.args.d c.args.last c.if-call-eq4.true c.write_list_on.ensures.written

pub returns : goal.returns
returns c = c.number_of_byte-2.ensures ∙ list_checked c.args.call c.args.d c.args.last c.if-call-eq4.false c.build_netlist.ensures.written
