-- The wires split at the pads, if they have room, and the component put in.
use Rattle.std.proofs.Common.{refl}
use Rattle.edits.proofs.Steps.{placed_wires, placed_parts}
use Rattle.edits.proofs.place.place.Goals as goal

pub returns : goal.returns
returns c = c.answer.ensures _ (placed_wires c.args.c c.requires.0 c.split_at_pads-split.ensures) (placed_parts c.args.c c.requires.0 c.insert_part.ensures) refl refl
