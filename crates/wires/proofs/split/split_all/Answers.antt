-- Each point cuts what the ones before it left.
use Rattle.std.proofs.Common.{subst, sym, rules}
use Rattle.std.proofs.Common.{arith}
use lib.Seq.{take_all}
use Rattle.std.proofs.lemmas.Result.{MatchResult-from_err}
use Rattle.wires.proofs.Growing.{cut_none, cut_next, cut_full}
use Rattle.wires.proofs.split.split_all.Goals as goal

pub loop-p-init : goal.loop-p-init
loop-p-init c = cut_none _

pub returns-in_err-out : goal.returns-in_err-out
returns-in_err-out c = record { room = λ _. MatchResult-from_err _ _ _ c.from_residual.ensures.0 (λ _. tt); so = λ ws h. MatchResult-from_err _ _ _ c.from_residual.ensures.0 (λ _. cut_full _ _ c.loop-p.invariant c.loop-p-test.true (rw c.in_use.ensures at c.in_err-out.ensures) ws h) }

pub loop-p-preserved : goal.loop-p-preserved
loop-p-preserved c = cut_next _ _ c.loop-p.invariant c.loop-p-test.true (rw c.in_use.ensures at c.in_ok-out.ensures)

pub returns : goal.returns
returns c = record { room = c.loop-p.invariant.room; so = λ ws h. rw (take_all c.loop-p.p-index c.args.points.now (omega arith)) at (c.loop-p.invariant.so ws h) }
