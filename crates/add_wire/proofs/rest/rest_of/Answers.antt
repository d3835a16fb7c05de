-- Kept, then split at one end and at the other.
use Rattle.sheet.specs.Run.{rest}
use Rattle.add_wire.proofs.rest.rest_of.Goals as goal

pub returns : goal.returns
unfolding rest
returns c = rw (c.low_tip.ensures, c.high_tip.ensures) at (c.split_all.ensures.so _ c.keep_unmet.ensures)
