-- After i edits the drawing is that of i edits, and so it is lawful.
use Prim.Native.Nat.{◌≤◌}
use mathlib.Core.Path.{◌≡◌}
use Rattle.bench_calls.specs.Timed.{built_by}
use Rattle.bench_calls.proofs.built.Given as goal

abbrev pub invariant-loop-i : goal.invariant-loop-i
invariant-loop-i l = (l.i ≤ l.count) × (l.d ≡ built_by l.whats l.numbers l.i)
