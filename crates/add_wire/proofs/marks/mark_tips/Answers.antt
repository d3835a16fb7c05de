-- One end, then the other.
use Rattle.sheet.specs.Geometry.{on}
use Rattle.add_wire.proofs.Marking.{more_tips}
use Rattle.add_wire.proofs.marks.mark_tips.Goals as goal

pub returns : goal.returns
returns c = more_tips (λ p. on p c.args.n) c.args.w c.mark.ensures c.mark-2.ensures c.low_tip.ensures c.high_tip.ensures
