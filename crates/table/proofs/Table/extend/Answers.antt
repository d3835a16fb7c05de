-- The rows passed stand behind those that were in use.
use Rattle.std.proofs.Common.{arith, length, take}
use lib.Seq.{length-take-le}
use Rattle.table.proofs.Extending.{extends_none, extends_next, extends_all}
use Rattle.table.proofs.Table.extend.Goals as goal

pub loop-row-init : goal.loop-row-init
loop-row-init g c = extends_none _

pub push-requires : goal.push-requires
push-requires g c = omega (arith, c.requires, c.loop-row.invariant.count_is, c.loop-row-test.true, length-take-le c.loop-row.row-index c.args.rows.now (omega arith))

pub loop-row-preserved : goal.loop-row-preserved
loop-row-preserved g c =
    extends_next _ _ c.row-item.is c.loop-row.invariant
    (omega (arith, c.requires, c.loop-row.invariant.count_is, c.loop-row-test.true, length-take-le c.loop-row.row-index c.args.rows.now (omega arith))) c.push.ensures c.loop-row-test.true

pub returns : goal.returns
returns g c = extends_all c.loop-row.invariant c.loop-row-test.false
