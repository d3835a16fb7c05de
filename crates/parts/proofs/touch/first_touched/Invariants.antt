-- A walk: no row passed touches c.
use Rattle.std.proofs.Common.{not, length}
use Rattle.lists.proofs.Walks.{Searched}
use Rattle.sheet.specs.Parts.{touches}
use Rattle.parts.proofs.touch.first_touched.Given as goal

abbrev pub invariant-loop-row : goal.invariant-loop-row
invariant-loop-row l = Searched (λ d. not (touches l.fn.c d)) l.cs (length l.cs) l.row
