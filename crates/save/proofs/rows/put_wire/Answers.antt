-- `put_wire` meets its contract: three numbers.
use native.Mathlib.Omega.{arith}
use Rattle.text.proofs.Puts.{put_then}
use Rattle.saved.specs.File.{wire_bytes}
use Rattle.saved.proofs.Lengths.{length_wire}
use Rattle.save.proofs.rows.put_wire.Goals as goal

pub put_number-p-requires : goal.put_number-p-requires
put_number-p-requires c = omega (arith, c.requires, length_wire c.args.w)

pub put_number-p-requires-2 : goal.put_number-p-requires-2
put_number-p-requires-2 c = omega (arith, c.requires, length_wire c.args.w, c.put_number-p.ensures.behind)

pub put_number-requires : goal.put_number-requires
put_number-requires c = omega (arith, c.requires, length_wire c.args.w, c.put_number-p.ensures.behind, c.put_number-p-2.ensures.behind)

pub returns : goal.returns
unfolding wire_bytes
returns c = put_then c.put_number-p.ensures (put_then c.put_number-p-2.ensures c.put_number.ensures)
