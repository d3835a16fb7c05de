-- The drawing after the edit, or as it was.
use mathlib.Core.Path.{◌∙◌}
use Rattle.asked.proofs.Handed.{handed_three}
use Rattle.bench_calls.specs.Numbered.{edit_of}
use Rattle.bench_calls.specs.Timed.{even_tally}
use Rattle.bench_calls.proofs.Building.{next_done, next_left}
use Rattle.bench_calls.proofs.next.Goals as goal

pub returns-then-e-eq0 : goal.returns-then-e-eq0
returns-then-e-eq0 c =
    next_done c.args.what c.args.x c.args.y c.args.z c.args.d
    (c.edit_on-e.ensures ∙ handed_three (λ x y z. edit_of c.args.what x y z c.args.d (even_tally 0)) _ _ _ c.ranges.x c.ranges.y c.ranges.z)
    c.if-e-eq0.true

pub returns : goal.returns
returns c =
    next_left c.args.what c.args.x c.args.y c.args.z c.args.d
    (c.edit_on-e.ensures ∙ handed_three (λ x y z. edit_of c.args.what x y z c.args.d (even_tally 0)) _ _ _ c.ranges.x c.ranges.y c.ranges.z)
    c.if-e-eq0.false
