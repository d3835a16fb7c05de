-- The drawing is built, and so it is lawful; then the calls.
use mathlib.Core.Path.{sym, ap, subst, ◌∙◌}
use Rattle.sheet.specs.declared.Drawing.{Drawing}
use Rattle.sheet.specs.Rules.{Lawful}
use Rattle.asked.proofs.Handed.{handed_three}
use Rattle.bench_calls.specs.Timed.{timed_answer, again}
use Rattle.bench_calls.proofs.Building.{built_lawful}
use Rattle.bench_calls.proofs.wuyansole_time.Goals as goal

pub repeated-requires : goal.repeated-requires
repeated-requires c = subst Lawful (sym c.built-d.ensures) (built_lawful _ _ _)

pub returns : goal.returns
returns c =
    c.repeated.ensures
    ∙ handed_three (λ x y z. again c.args.times (timed_answer c.args.call c.args.what x y z c.built-d.result) 0) _ _ _ c.ranges.x c.ranges.y c.ranges.z
    ∙ ap (λ (d : Drawing). again c.args.times (timed_answer c.args.call c.args.what c.args.x c.args.y c.args.z d) 0) c.built-d.ensures
