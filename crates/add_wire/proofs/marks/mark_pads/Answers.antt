-- A pass: those of the pads passed that lie on n are marked too.
use Rattle.std.proofs.Common.{refl, ap, ◌∙◌, [], ◌∷◌}
use Rattle.std.specs.List.{filter}
use Rattle.lists.proofs.Passes.{pass_start, pass_next, gather_keep, gather_each}
use Rattle.table.proofs.Passing.{pass_all}
use Rattle.sheet.specs.Geometry.{on}
use Rattle.add_wire.proofs.Marking.{more_none, more_then, more_as}
use Rattle.add_wire.proofs.marks.mark_pads.Goals as goal

pub loop-p-init : goal.loop-p-init
loop-p-init c = pass_start _ _ (more_none _ _)

pub loop-p-preserved : goal.loop-p-preserved
loop-p-preserved c = let s = c.loop-p.invariant in pass_next _ s refl (more_then s.so_far c.mark.ensures) c.loop-p-test.true

pub returns : goal.returns
returns c = more_as (gather_keep (λ p. on p c.args.n) (λ p. p ∷ []) _ ∙ ap (filter (λ p. on p c.args.n)) (gather_each _)) (pass_all c.loop-p.invariant c.loop-p-test.false)
