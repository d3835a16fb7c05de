-- Both checks tell the first broken rule.
use mathlib.Core.Path.{ap}
use Rattle.rules.specs.declared.Checked.{Checked}
use Rattle.bench_calls.proofs.answers.check_answer.Goals as goal

pub returns-then-call-eq2 : goal.returns-then-call-eq2
returns-then-call-eq2 c = ap (λ (k : Checked). k.rule) c.check_plainly-k.ensures

pub returns : goal.returns
returns c = ap (λ (k : Checked). k.rule) c.check-k.ensures
