-- A place in the range is its own column.
use Prim.Native.Nat.{◌<◌}
use native.Mathlib.Omega.{arith}
use Rattle.lawful.proofs.Linking.{column_in, column_out}
use Rattle.lawful.proofs.columns.column.Goals as goal

pub returns-then-x-lt12001 : goal.returns-then-x-lt12001
returns-then-x-lt12001 c = let h : c.args.x < 12001 = omega arith in (column_in c.args.x h, h)

pub returns : goal.returns
returns c = (column_out c.args.x (λ h. omega arith), omega arith)
