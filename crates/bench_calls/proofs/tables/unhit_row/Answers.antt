-- A number of one row.
use Prim.Native.Nat.{◌%◌}
use native.Mathlib.Omega.{arith}
use Rattle.sheet.specs.declared.Wire.{Wire}
use Rattle.bench_calls.proofs.Rowing.{row_is}
use Rattle.bench_calls.proofs.tables.unhit_row.Goals as goal

pub returns : goal.returns
returns c = row_is (rw c.in_use.ensures at c.keep_unhit-t.ensures) (λ (r : Wire). r.line) (c.args.size % 512) _ (omega arith)
