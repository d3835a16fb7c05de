-- The last of the net numbers.
use Prim.Native.Nat.{ℕ}
use mathlib.Core.List.{List}
use mathlib.Core.Path.{ap}
use lib.ListN.{get_or}
use Rattle.bench_calls.proofs.tables.last_net.Goals as goal

pub returns : goal.returns
returns c = ap (λ (l : List ℕ). get_or l 383 0) c.pad_numbers-numbers.ensures
