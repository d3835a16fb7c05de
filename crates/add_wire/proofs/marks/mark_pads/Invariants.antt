-- A pass: those of the pads passed that lie on n are marked too.
use Rattle.std.proofs.Common.{[], ◌∷◌}
use Rattle.std.specs.List.{filter}
use Rattle.lists.proofs.Passes.{Pass}
use Rattle.sheet.specs.Geometry.{on}
use Rattle.add_wire.specs.Marks.{More}
use Rattle.add_wire.proofs.marks.mark_pads.Given as goal

abbrev pub invariant-loop-p : goal.invariant-loop-p
invariant-loop-p l = Pass (λ qs k. More l.n.vertical l.initial.marks qs k) (λ p. filter (λ q. on q l.n) (p ∷ [])) l.pads l.p-index l.marks
