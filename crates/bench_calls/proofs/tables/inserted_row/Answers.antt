-- A number of one row.
use Prim.Native.Nat.{◌%◌}
use native.Mathlib.Omega.{arith}
use Rattle.sheet.specs.declared.Component.{Component}
use Rattle.bench_calls.proofs.Rowing.{row_is}
use Rattle.bench_calls.proofs.tables.inserted_row.Goals as goal

pub returns : goal.returns
returns c = row_is c.insert_part-t.ensures (λ (r : Component). r.x) (c.args.c.x % 128) _ (omega arith)
