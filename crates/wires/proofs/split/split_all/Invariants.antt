-- A pass over the points: the table is what was there, split at those passed.
use Rattle.std.proofs.Common.{take}
use Rattle.wires.proofs.Growing.{Cut}
use Rattle.wires.proofs.split.split_all.Given as goal

abbrev pub invariant-loop-p : goal.invariant-loop-p
invariant-loop-p l = Cut (take l.p-index l.points) l.initial.out l.out
