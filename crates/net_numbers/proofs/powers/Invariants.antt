-- `net_numbers::powers` meets its contract: the power symbols among the rows passed.
use Prim.Native.Nat.{◌≤◌}
use mathlib.Core.Path.{◌≡◌}
use lib.ListN.{length}
use Rattle.lists.proofs.Passes.{Pass, only}
use Rattle.parts.specs.Tables.{TabledParts}
use Rattle.net_numbers.specs.Netted.{is_power}
use Rattle.net_numbers.proofs.powers.Given as goal

abbrev pub invariant-loop-i : goal.invariant-loop-i
invariant-loop-i l = (length l.cs.rows ≡ 128) × (l.out.count ≤ l.i) × Pass TabledParts (only is_power) l.cs.rows l.i l.out
