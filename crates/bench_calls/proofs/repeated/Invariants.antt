-- After so many calls the answer is that of so many calls.
use Prim.Native.Nat.{◌≤◌}
use mathlib.Core.Path.{◌≡◌}
use Rattle.bench_calls.specs.Timed.{timed_answer, again}
use Rattle.bench_calls.proofs.repeated.Given as goal

abbrev pub invariant-loop : goal.invariant-loop
invariant-loop l = (l.counter ≤ l.times) × (l.last ≡ again l.counter (timed_answer l.call l.what l.x l.y l.z l.d) 0)
