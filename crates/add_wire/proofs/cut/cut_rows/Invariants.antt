-- A pass: the rows passed are behind those of the table, each cut.
use Rattle.lists.proofs.Passes.{Pass}
use Rattle.add_wire.specs.Marks.{cut_across, Adds}
use Rattle.add_wire.proofs.cut.cut_rows.Given as goal

abbrev pub invariant-loop-w : goal.invariant-loop-w
invariant-loop-w l = Pass (λ vs t. Adds vs l.initial.out t) (cut_across l.n l.marks) l.ws l.w-index l.out
