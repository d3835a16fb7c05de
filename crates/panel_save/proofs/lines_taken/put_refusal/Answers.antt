-- `put_refusal` meets its contract: five runs of bytes, one behind the other.
use native.Mathlib.Omega.{arith}
use Rattle.text.proofs.Decimals.{length_number}
use Rattle.text.proofs.Puts.{put_then, put_as}
use Rattle.panel_save.proofs.Refusals.{told_line}
use Rattle.panel_save.proofs.lines_taken.put_refusal.Goals as goal

pub put_decimal-p-requires : goal.put_decimal-p-requires
put_decimal-p-requires c =
    omega (arith, c.put_bytes-p.ensures.behind, length_number c.args.n (omega (arith, c.ranges.n)))

pub put_bytes-p-requires-2 : goal.put_bytes-p-requires-2
put_bytes-p-requires-2 c =
    omega (arith, c.put_bytes-p.ensures.behind, c.put_decimal-p.ensures.behind, length_number c.args.n (omega (arith, c.ranges.n)))

pub put_decimal-p-requires-2 : goal.put_decimal-p-requires-2
put_decimal-p-requires-2 c =
    omega (arith, c.put_bytes-p.ensures.behind, c.put_decimal-p.ensures.behind, c.put_bytes-p-2.ensures.behind, length_number c.args.n (omega (arith, c.ranges.n)), length_number c.args.reply (omega (arith, c.ranges.reply)))

pub put_byte-requires : goal.put_byte-requires
put_byte-requires c =
    omega (arith, c.put_bytes-p.ensures.behind, c.put_decimal-p.ensures.behind, c.put_bytes-p-2.ensures.behind, c.put_decimal-p-2.ensures.behind, length_number c.args.n (omega (arith, c.ranges.n)), length_number c.args.reply (omega (arith, c.ranges.reply)))

pub returns : goal.returns
returns c = (
  put_as (told_line c.args.n c.args.reply c.requires) (put_then c.put_bytes-p.ensures (put_then c.put_decimal-p.ensures (put_then c.put_bytes-p-2.ensures (put_then c.put_decimal-p-2.ensures c.put_byte.ensures)))),
  omega (arith, c.put_bytes-p.ensures.behind, c.put_decimal-p.ensures.behind, c.put_bytes-p-2.ensures.behind, c.put_decimal-p-2.ensures.behind, c.put_byte.ensures.behind, length_number c.args.n (omega (arith, c.ranges.n)), length_number c.args.reply (omega (arith, c.ranges.reply))),
)
