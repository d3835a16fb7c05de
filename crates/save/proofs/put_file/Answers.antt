-- `put_file` meets its contract: both directions and the components.
use native.Mathlib.Omega.{arith}
use Rattle.text.proofs.Puts.{put_then}
use Rattle.saved.specs.File.{file_of}
use Rattle.saved.proofs.Lengths.{length_file}
use Rattle.save.proofs.put_file.Goals as goal

pub put_direction-p-requires : goal.put_direction-p-requires
put_direction-p-requires c = record { few = c.requires.few.0; room = omega (arith, c.requires.room, length_file (record { wires = c.args.ws.now; parts = c.args.cs.now })) }

pub put_direction-p-requires-2 : goal.put_direction-p-requires-2
put_direction-p-requires-2 c = record { few = c.requires.few.0; room = omega (arith, c.requires.room, length_file (record { wires = c.args.ws.now; parts = c.args.cs.now }), c.put_direction-p.ensures.behind) }

pub put_parts-requires : goal.put_parts-requires
put_parts-requires c = record { few = c.requires.few.1; room = omega (arith, c.requires.room, length_file (record { wires = c.args.ws.now; parts = c.args.cs.now }), c.put_direction-p.ensures.behind, c.put_direction-p-2.ensures.behind) }

pub returns : goal.returns
unfolding file_of
returns c = put_then c.put_direction-p.ensures (put_then c.put_direction-p-2.ensures c.put_parts.ensures)
