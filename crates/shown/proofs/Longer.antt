-- What stands behind the first 20,624 bytes of some input changes nothing of what is printed.
use mathlib.Core.Path.{◌≡◌}
use mathlib.Core.Bool.{cond}
use mathlib.Core.List.{List, [], ◌++◌}
use Prim.Native.Nat.{ℕ, ◌≤◌}
use lib.Dec.{eqb}
use lib.ListN.{length}
use Rattle.telling.specs.Told.{answered}
use Rattle.saved.proofs.Looks.{longer_input}
use Rattle.shown.specs.Shown.{drawing_shown, shown_of}

pub longer_shown : (p t : List ℕ) → 20624 ≤ length p → shown_of (p ++ t) ≡ shown_of p
unfolding shown_of
longer_shown p t h = let e = longer_input p t h in λ i. answered (e i).reply ++ cond (eqb (e i).reply 0) (drawing_shown (e i).drawing) []
