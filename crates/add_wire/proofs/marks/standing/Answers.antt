-- The wire ends, then the pads.
use Rattle.add_wire.proofs.Marking.{marked_none}
use Rattle.add_wire.proofs.Laying.{standing_marks}
use Rattle.add_wire.proofs.marks.standing.Goals as goal

pub returns : goal.returns
returns c = standing_marks _ _ _ (c.mark_pads.ensures.so _ (c.mark_ends.ensures.so _ (marked_none _)))
