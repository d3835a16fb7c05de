-- A pass: the table holds the keys of the ends of the wires passed, two for each.
use Rattle.std.proofs.Common.{arith, refl, ap, ◌∙◌}
use Rattle.lists.proofs.Passes.{pass_start, pass_next}
use Rattle.table.proofs.Passing.{pass_all}
use Rattle.sheet.specs.Geometry.{ends}
use Rattle.joints.specs.Table.{Keys}
use Rattle.joints.proofs.Keying.{keyed_none, keyed_two}
use Rattle.joints.proofs.keys.end_keys.Goals as goal

pub loop-w-init : goal.loop-w-init
loop-w-init c = let z = keyed_none c.empty-out.ensures in (omega (arith, z.count_is), pass_start _ _ z)

pub loop-w-preserved : goal.loop-w-preserved
loop-w-preserved c =
    let s = c.loop-w.invariant in
    let low = c.key.ensures ∙ c.low_tip.ensures in
    let high = c.key-in-loop-w.ensures ∙ c.high_tip.ensures in
    let one = ap (λ (t : Keys). t.count) c.push.ensures in
    let two = ap (λ (t : Keys). t.count) c.push-in-loop-w.ensures in
    (omega (arith, one, two), pass_next _ s.1 refl (keyed_two _ _ s.1.so_far low high (omega arith) c.push.ensures c.push-in-loop-w.ensures) c.loop-w-test.true)

pub returns : goal.returns
unfolding ends
returns c = pass_all c.loop-w.invariant.1 c.loop-w-test.false
