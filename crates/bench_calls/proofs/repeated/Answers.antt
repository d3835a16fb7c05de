-- After so many calls the answer is that of so many calls.
use native.Mathlib.Omega.{arith}
use mathlib.Core.Path.{◌∙◌}
use Rattle.asked.proofs.Handed.{handed_three}
use Rattle.bench_calls.specs.Timed.{timed_answer, again}
use Rattle.bench_calls.proofs.Timing.{again_none, again_next, again_end}
use Rattle.bench_calls.proofs.repeated.Goals as goal

pub loop-init : goal.loop-init
loop-init c = (omega arith, again_none _)

pub answer-last-requires : goal.answer-last-requires
answer-last-requires c = c.requires

pub loop-preserved : goal.loop-preserved
loop-preserved c = let l = c.loop in (omega arith, again_next _ l.counter l.invariant.1 c.answer-last.ensures)

pub returns : goal.returns
returns c =
    again_end _ c.loop.counter c.args.times (omega arith) c.loop.invariant.1
    ∙ handed_three (λ x y z. again c.args.times (timed_answer c.args.call c.args.what x y z c.args.d) 0) _ _ _ c.ranges.x c.ranges.y c.ranges.z
