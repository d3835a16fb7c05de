-- `put_counted` meets its contract: seven runs of bytes, one behind the other.
use native.Mathlib.Omega.{arith}
use Rattle.text.proofs.Decimals.{length_number}
use Rattle.text.proofs.Puts.{put_then}
use Rattle.telling.specs.Told.{counted}
use Rattle.telling.proofs.put_counted.Goals as goal

pub put_decimal-p-requires : goal.put_decimal-p-requires
put_decimal-p-requires c =
    omega (arith, c.put_bytes-p.ensures.behind, length_number c.args.e.now.reply (omega arith))

pub put_byte-p-requires : goal.put_byte-p-requires
put_byte-p-requires c =
    omega (arith, c.put_bytes-p.ensures.behind, c.put_decimal-p.ensures.behind, length_number c.args.e.now.reply (omega arith))

pub put_decimal-p-requires-2 : goal.put_decimal-p-requires-2
put_decimal-p-requires-2 c =
    omega (arith, c.put_bytes-p.ensures.behind, c.put_decimal-p.ensures.behind, c.put_byte-p.ensures.behind, length_number c.args.e.now.reply (omega arith), length_number c.args.e.now.hit (omega arith))

pub put_byte-p-requires-2 : goal.put_byte-p-requires-2
put_byte-p-requires-2 c =
    omega (arith, c.put_bytes-p.ensures.behind, c.put_decimal-p.ensures.behind, c.put_byte-p.ensures.behind, c.put_decimal-p-2.ensures.behind, length_number c.args.e.now.reply (omega arith), length_number c.args.e.now.hit (omega arith))

pub put_decimal-p-requires-3 : goal.put_decimal-p-requires-3
put_decimal-p-requires-3 c =
    omega (arith, c.put_bytes-p.ensures.behind, c.put_decimal-p.ensures.behind, c.put_byte-p.ensures.behind, c.put_decimal-p-2.ensures.behind, c.put_byte-p-2.ensures.behind, length_number c.args.e.now.reply (omega arith), length_number c.args.e.now.hit (omega arith), length_number c.args.e.now.lost (omega arith))

pub put_byte-requires : goal.put_byte-requires
put_byte-requires c =
    omega (arith, c.put_bytes-p.ensures.behind, c.put_decimal-p.ensures.behind, c.put_byte-p.ensures.behind, c.put_decimal-p-2.ensures.behind, c.put_byte-p-2.ensures.behind, c.put_decimal-p-3.ensures.behind, length_number c.args.e.now.reply (omega arith), length_number c.args.e.now.hit (omega arith), length_number c.args.e.now.lost (omega arith))

pub returns : goal.returns
unfolding counted
returns c = (
  put_then c.put_bytes-p.ensures (put_then c.put_decimal-p.ensures (put_then c.put_byte-p.ensures (put_then c.put_decimal-p-2.ensures (put_then c.put_byte-p-2.ensures (put_then c.put_decimal-p-3.ensures c.put_byte.ensures))))),
  omega (arith, c.put_bytes-p.ensures.behind, c.put_decimal-p.ensures.behind, c.put_byte-p.ensures.behind, c.put_decimal-p-2.ensures.behind, c.put_byte-p-2.ensures.behind, c.put_decimal-p-3.ensures.behind, c.put_byte.ensures.behind, length_number c.args.e.now.reply (omega arith), length_number c.args.e.now.hit (omega arith), length_number c.args.e.now.lost (omega arith)),
)
