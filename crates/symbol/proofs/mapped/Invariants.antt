-- `symbol::mapped` meets its contract: the loop has mapped the first points.
use lib.ListN.{take}
use mathlib.Core.Path.{◌≡◌}
use Rattle.orientation.specs.Orientations.{eighth}
use Rattle.symbol.specs.Symbols.{moved_of}
use Rattle.symbol.specs.Steps.{offset_of, map_first}
use Rattle.symbol.proofs.mapped.Given as goal

abbrev pub invariant-loop-q : goal.invariant-loop-q
invariant-loop-q l = l.q-items ≡ map_first (λ q. moved_of (eighth l.n) l.x l.y (offset_of q)) l.q-index (take l.count l.fn.points)
