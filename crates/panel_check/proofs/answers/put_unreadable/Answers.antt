-- `put_unreadable` meets its contract: three runs of bytes, one behind the other.
use native.Mathlib.Omega.{arith}
use Rattle.text.proofs.Puts.{put_then}
use Rattle.panel_check.specs.Answers.{unreadable_of}
use Rattle.text.proofs.Decimals.{length_number}
use Rattle.panel_check.proofs.answers.put_unreadable.Goals as goal

pub put_decimal-p-requires : goal.put_decimal-p-requires
put_decimal-p-requires c = omega (arith, c.put_bytes-p.ensures.behind, length_number c.args.line (omega (arith, c.ranges.line)))

pub put_byte-requires : goal.put_byte-requires
put_byte-requires c = omega (arith, c.put_bytes-p.ensures.behind, c.put_decimal-p.ensures.behind, length_number c.args.line (omega (arith, c.ranges.line)))

pub returns : goal.returns
unfolding unreadable_of
returns c = (
  put_then c.put_bytes-p.ensures (put_then c.put_decimal-p.ensures c.put_byte.ensures),
  omega (arith, c.put_bytes-p.ensures.behind, c.put_decimal-p.ensures.behind, c.put_byte.ensures.behind, length_number c.args.line (omega (arith, c.ranges.line))),
)
