-- `put_numbered` meets its contract: four runs of bytes, one behind the other.
use native.Mathlib.Omega.{arith}
use Rattle.text.proofs.Decimals.{length_number}
use Rattle.text.proofs.Puts.{put_then}
use Rattle.telling.specs.Told.{numbered}
use Rattle.telling.proofs.put_numbered.Goals as goal

pub put_byte-p-requires-2 : goal.put_byte-p-requires-2
put_byte-p-requires-2 c = omega (arith, c.put_byte-p.ensures.behind)

pub put_decimal-p-requires : goal.put_decimal-p-requires
put_decimal-p-requires c =
    omega (arith, c.put_byte-p.ensures.behind, c.put_byte-p-2.ensures.behind, length_number c.args.n (omega (arith, c.ranges.n)))

pub put_byte-requires : goal.put_byte-requires
put_byte-requires c =
    omega (arith, c.put_byte-p.ensures.behind, c.put_byte-p-2.ensures.behind, c.put_decimal-p.ensures.behind, length_number c.args.n (omega (arith, c.ranges.n)))

pub returns : goal.returns
unfolding numbered
returns c = (
  put_then c.put_byte-p.ensures (put_then c.put_byte-p-2.ensures (put_then c.put_decimal-p.ensures c.put_byte.ensures)),
  omega (arith, c.put_byte-p.ensures.behind, c.put_byte-p-2.ensures.behind, c.put_decimal-p.ensures.behind, c.put_byte.ensures.behind, length_number c.args.n (omega (arith, c.ranges.n))),
)
