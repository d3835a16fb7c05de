-- `dump::put_coordinate` meets its contract: a space and the coordinate with its sign.
use mathlib.Core.Path.{ap}
use native.Mathlib.Omega.{arith}
use lib.ListN.{length}
use Rattle.text.proofs.Puts.{put_as}
use Rattle.dump.proofs.Runs.{puts_byte, puts_then, puts_short}
use Rattle.dump.specs.Rows.{coordinate_word}
use Rattle.dump.proofs.Lengths.{length_coordinate, handed}
use Rattle.dump.proofs.rows.put_coordinate.Goals as goal

pub put_signed-requires : goal.put_signed-requires
put_signed-requires c =
    let a = c in
    omega (arith, ap length (handed a.args.n a.ranges.n.fits c.coordinate-z.ensures), length_coordinate a.args.n a.ranges.n.fits)

pub returns : goal.returns
unfolding coordinate_word
returns c =
    let a = c in
    puts_then (puts_byte c.put_byte-p.ensures) (puts_short (length_coordinate a.args.n a.ranges.n.fits) (put_as (handed a.args.n a.ranges.n.fits c.coordinate-z.ensures) c.put_signed.ensures))
