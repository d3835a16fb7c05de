-- A pass: those of the ends of the rows passed that lie on n are marked.
use Rattle.std.proofs.Common.{refl}
use Rattle.lists.proofs.Passes.{pass_start, pass_next, gather_keep}
use Rattle.table.proofs.Passing.{pass_all}
use Rattle.sheet.specs.Geometry.{tips, on, ends}
use Rattle.add_wire.proofs.Marking.{more_none, more_then, more_as}
use Rattle.add_wire.proofs.marks.mark_ends.Goals as goal

pub loop-w-init : goal.loop-w-init
loop-w-init c = pass_start _ _ (more_none _ _)

pub loop-w-preserved : goal.loop-w-preserved
loop-w-preserved c = let s = c.loop-w.invariant in pass_next _ s refl (more_then s.so_far c.mark_tips.ensures) c.loop-w-test.true

pub returns : goal.returns
unfolding ends
returns c = more_as (gather_keep (λ p. on p c.args.n) tips _) (pass_all c.loop-w.invariant c.loop-w-test.false)
