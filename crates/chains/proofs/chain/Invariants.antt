-- The numbers go in one after another, each in front of the chain of its key.
use Prim.Native.Nat.{◌≤◌, ◌-◌, ◌%◌}
use mathlib.Core.Path.{◌≡◌}
use lib.ListN.{length}
use Rattle.chains.proofs.Chaining.{Building}
use Rattle.chains.proofs.chain.Given as goal

abbrev pub invariant-loop-i : goal.invariant-loop-i
invariant-loop-i l = (l.i ≤ l.n) × (length l.codes ≡ 1408) × (length l.out.last ≡ 4096) × (length l.out.before ≡ 1408) × Building (λ c. c % 4093) l.codes l.i l.out.last l.out.before

abbrev pub decreases-loop-i : goal.decreases-loop-i
decreases-loop-i l = l.n - l.i
