-- `loose_pads::loose_part` meets its contract, kind by kind.
use native.Mathlib.Omega.{arith}
use Rattle.loose_pads.proofs.Walking.{contact_part, coil_part}
use Rattle.loose_pads.proofs.loose_part.Goals as goal

pub returns-then-kind-eq1 : goal.returns-then-kind-eq1
returns-then-kind-eq1 c =
    let one = c.counted.ensures in
    let two = c.counted-then-kind-eq1.ensures in
    let three = c.counted-then-kind-eq1-2.ensures in
    (omega (arith, one.0, two.0, three.0, contact_part c.args.kind c.args.n c.args.a c.args.b c.if-kind-eq1.true), omega (arith, one.1, two.1, three.1))

pub returns : goal.returns
returns c =
    (omega (arith, c.counted-2.ensures.0, coil_part c.args.kind c.args.n c.args.a c.args.b c.if-kind-eq0.false c.if-kind-eq1.false), omega (arith, c.counted-2.ensures.1))
