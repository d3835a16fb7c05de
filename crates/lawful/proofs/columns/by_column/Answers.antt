-- The rows from m on are linked.
use Prim.Native.Nat.{◌-◌}
use native.Mathlib.Omega.{arith}
use lib.ListN.{length-set, length-replicate}
use Rattle.lawful.proofs.Linking.{linking_start, linking_next, linking_end}
use Rattle.lawful.proofs.columns.by_column.Goals as goal

pub loop-m-init : goal.loop-m-init
loop-m-init c = ((simp length-replicate, simp length-replicate), linking_start _ _ _ _)

pub loop-m-preserved : goal.loop-m-preserved
loop-m-preserved c = let v = c.loop-m.invariant in ((simp length-set (omega arith), simp length-set (omega arith)), linking_next (c.loop-m.m - 1) c.column-c.result v.1 (omega arith) c.column-c.ensures.0 (omega arith) (omega arith))

pub returns : goal.returns
returns c = linking_end c.loop-m.invariant.1 (omega arith)
