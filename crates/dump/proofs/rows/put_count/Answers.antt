-- `dump::put_count` meets its contract: a space and the digits.
use native.Mathlib.Omega.{arith}
use Rattle.dump.proofs.Runs.{puts_byte, puts_then, puts_short}
use Rattle.dump.specs.Rows.{count_word}
use Rattle.text.proofs.Decimals.{length_number}
use Rattle.dump.proofs.rows.put_count.Goals as goal

pub put_decimal-requires : goal.put_decimal-requires
put_decimal-requires c =
    let a = c in
    omega (arith, length_number a.args.n a.ranges.n.fits)

pub returns : goal.returns
unfolding count_word
returns c =
    let a = c in
    puts_then (puts_byte c.put_byte-p.ensures) (puts_short (length_number a.args.n a.ranges.n.fits) c.put_decimal.ensures)
