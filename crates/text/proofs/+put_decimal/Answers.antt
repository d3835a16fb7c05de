-- `text::put_decimal`, which calls itself, meets its contract: the digits before the last are those of its tenth part.
use native.Mathlib.Omega.{arith}
use Rattle.text.proofs.Puts.{put_then}
use Rattle.text.proofs.Decimals.{decimal_more, length_digit, length_more}
use Rattle.text.proofs.+put_decimal.Goals as goal

pub put_byte-requires : goal.put_byte-requires
put_byte-requires t c = omega (arith, c.requires, length_digit c.args.n (omega arith))

pub put_decimal-next-requires : goal.put_decimal-next-requires
put_decimal-next-requires t c = (omega arith, omega (arith, c.requires, length_more c.args.n (omega arith)))

pub put_byte-requires-2 : goal.put_byte-requires-2
put_byte-requires-2 t c = omega (arith, c.requires, c.put_decimal-next.ensures.behind, length_more c.args.n (omega arith))

pub returns : goal.returns
returns t c = rw (decimal_more c.args.n (omega arith)) (put_then c.put_decimal-next.ensures c.put_byte-2.ensures)
