-- By the number of the call.
use mathlib.Core.Path.{ap, ◌∙◌}
use Rattle.netlist.specs.declared.LooseCount.{LooseCount}
use Rattle.bench_calls.proofs.Timing.{loose_lawful, loose_checked}
use Rattle.bench_calls.proofs.answers.loose_answer.Goals as goal

pub returns-then-call-eq6 : goal.returns-then-call-eq6
returns-then-call-eq6 c = c.loose_on.ensures ∙ loose_lawful c.args.call c.args.d c.if-call-eq6.true

pub returns : goal.returns
returns c = ap (λ (l : LooseCount). l.count) c.loose-l.ensures ∙ loose_checked c.args.call c.args.d c.if-call-eq6.false
