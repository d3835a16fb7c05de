-- A pass: those of the ends of the rows passed that lie on n are marked.
use Rattle.std.specs.List.{filter}
use Rattle.lists.proofs.Passes.{Pass}
use Rattle.sheet.specs.Geometry.{tips, on}
use Rattle.add_wire.specs.Marks.{More}
use Rattle.add_wire.proofs.marks.mark_ends.Given as goal

abbrev pub invariant-loop-w : goal.invariant-loop-w
invariant-loop-w l = Pass (λ qs k. More l.n.vertical l.initial.marks qs k) (λ w. filter (λ p. on p l.n) (tips w)) l.ws l.w-index l.marks
