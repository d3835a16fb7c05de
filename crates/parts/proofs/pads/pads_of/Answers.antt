-- The block of a component that meets the limits has its pads in front.
use Rattle.parts.proofs.Listing.{pad_block_lem}
use Rattle.parts.proofs.pads.pads_of.Goals as goal

pub returns : goal.returns
returns c = pad_block_lem c.args.c c.pads_at.ensures
