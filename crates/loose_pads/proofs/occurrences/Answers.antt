-- `loose_pads::occurrences` meets its contract: the table tells how often each number occurs among those before the index.
use native.Mathlib.Omega.{arith}
use mathlib.Core.Path.{◌≡◌, refl, subst}
use lib.ListN.{take}
use lib.Seq.{take_all}
use Rattle.loose_pads.specs.Walking.{Occurrences}
use Rattle.loose_pads.proofs.Occurring.{table_none, table_few, table_next}
use Rattle.loose_pads.proofs.occurrences.Goals as goal

pub loop-n-init : goal.loop-n-init
loop-n-init c = table_none

pub overflow_add-table : goal.overflow_add-table
overflow_add-table c = omega (arith, table_few c.args.numbers c.loop-n.n-index _ c.loop-n.invariant (c.requires.low c.loop-n.n-index))

pub loop-n-preserved : goal.loop-n-preserved
loop-n-preserved c = table_next c.args.numbers c.loop-n.n-index c.loop-n.invariant refl (c.requires.low c.loop-n.n-index) (omega arith)

pub returns : goal.returns
returns c =
    let e : take c.loop-n.n-index c.args.numbers ≡ c.args.numbers = take_all c.loop-n.n-index c.args.numbers (omega arith) in
    subst (λ ns. Occurrences ns c.loop-n.table) e c.loop-n.invariant
