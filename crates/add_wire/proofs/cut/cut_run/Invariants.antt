-- The run piece by piece: what is done and what is left of it, cut from place a on, are the whole.
use Rattle.std.proofs.Common.{◌+◌, ◌-◌, false, get_or}
use Rattle.add_wire.specs.Marks.{cut_from}
use Rattle.add_wire.proofs.Adding.{Slicing}
use Rattle.add_wire.proofs.cut.cut_run.Given as goal

abbrev pub invariant-loop-a : goal.invariant-loop-a
invariant-loop-a l = Slicing l.initial.out (λ b. get_or l.marks b false) (l.fn.n.end + 1) (cut_from (λ b. get_or l.marks b false) l.fn.n.start (l.fn.n.end + 1 - l.fn.n.start) l.fn.run) l.a l.w l.out
