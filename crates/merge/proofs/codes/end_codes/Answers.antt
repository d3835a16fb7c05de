-- A pass: the table has the numbers of both ends of each of the rows passed.
use Rattle.std.proofs.Common.{arith, refl, ap}
use Rattle.lists.proofs.Passes.{pass_start, pass_next}
use Rattle.table.proofs.Passing.{pass_all}
use Rattle.merge.specs.Numbers.{Numbers}
use Rattle.merge.proofs.Coding.{listed_none, coded_as, listed_two}
use Rattle.merge.proofs.codes.end_codes.Goals as goal

pub loop-w-init : goal.loop-w-init
loop-w-init c = let z = listed_none c.empty-out.ensures in (omega (arith, z.count_is), pass_start _ _ z)

pub loop-w-preserved : goal.loop-w-preserved
loop-w-preserved c =
    let s = c.loop-w.invariant in
    let k = c.kind_of-kind.ensures.0 in
    let a = coded_as c.code.ensures k c.low_tip.ensures in
    let b = coded_as c.code-in-loop-w.ensures k c.high_tip.ensures in
    let one = ap (λ (t : Numbers). t.count) c.push.ensures in
    let two = ap (λ (t : Numbers). t.count) c.push-in-loop-w.ensures in
    (omega (arith, one, two), pass_next _ s.1 refl (listed_two _ _ s.1.so_far a b (omega arith) c.push.ensures c.push-in-loop-w.ensures) c.loop-w-test.true)

pub returns : goal.returns
returns c = ((pass_all c.loop-w.invariant.1 c.loop-w-test.false).coded, omega arith)
