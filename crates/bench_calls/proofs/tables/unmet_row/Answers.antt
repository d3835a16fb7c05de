-- A number of one row.
use Prim.Native.Nat.{◌%◌}
use native.Mathlib.Omega.{arith}
use Rattle.sheet.specs.declared.Component.{Component}
use Rattle.bench_calls.proofs.Rowing.{row_is}
use Rattle.bench_calls.proofs.tables.unmet_row.Goals as goal

pub returns : goal.returns
returns c = row_is (rw c.in_use.ensures at c.keep_unmet-t.ensures) (λ (r : Component). r.x) (c.args.size % 128) _ (omega arith)
