-- A pass: the table holds what splitting made of the rows passed.
use Rattle.sheet.specs.Split.{split_one}
use Rattle.lists.proofs.Passes.{Pass}
use Rattle.wires.specs.Tables.{Tabled}
use Rattle.wires.proofs.split.split_at.Given as goal

abbrev pub invariant-loop-w : goal.invariant-loop-w
invariant-loop-w l = Pass Tabled (split_one l.p) l.ws l.w-index l.out
