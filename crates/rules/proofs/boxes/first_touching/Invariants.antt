-- The pairs passed do not touch.
use Rattle.std.proofs.Common.{◌≡◌, ◌<◌, Option, None, length}
use Rattle.rules.specs.Check.{touching_from}
use Rattle.rules.proofs.Pairs.{Outer, Inner}
use Rattle.rules.proofs.boxes.first_touching.Given as goal

abbrev pub invariant-walk : goal.invariant-walk
invariant-walk l = (l.met ≡ None) × Outer l.cs (length l.cs) l.i (touching_from 0 l.cs)

abbrev pub invariant-loop-j : goal.invariant-loop-j
invariant-loop-j l = (l.met ≡ None) × Inner l.p l.cs (length l.cs) l.i l.j (touching_from 0 l.cs)
