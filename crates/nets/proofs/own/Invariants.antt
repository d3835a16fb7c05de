-- `nets::own` meets its contract: the places passed have their own number.
use mathlib.Core.Path.{◌≡◌}
use Prim.Native.Nat.{ℕ, ◌<◌}
use lib.ListN.{length, get_or}
use Rattle.nets.proofs.own.Given as goal

abbrev pub invariant-loop-n : goal.invariant-loop-n
invariant-loop-n l = (length l.alias ≡ 1409) × ((j : ℕ) → j < l.n → get_or l.alias j 0 ≡ j)
