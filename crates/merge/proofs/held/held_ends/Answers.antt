-- All ends and pads as numbers, chained, and each wire's high end looked up among them.
use Rattle.merge.proofs.held.held_ends.Goals as goal

pub returns : goal.returns
returns c = c.flags_of.ensures _ c.mark_codes-all.ensures.0
