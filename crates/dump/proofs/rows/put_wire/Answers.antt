-- `dump::put_wire` meets its contract: two letters and three coordinates.
use mathlib.Core.Path.{ap}
use mathlib.Core.List.{[], ◌∷◌}
use Rattle.text.proofs.Puts.{put_as}
use Rattle.dump.proofs.Runs.{puts_byte, puts_then}
use Rattle.dump.specs.Rows.{wire_line}
use Rattle.dump.proofs.rows.put_wire.Goals as goal

pub returns : goal.returns
unfolding wire_line
returns c =
    puts_then (puts_byte c.put_byte-p.ensures) (puts_then (puts_byte c.put_byte-p-2.ensures) (puts_then (puts_byte (put_as (ap (λ l. l ∷ []) c.letter-l.ensures) c.put_byte-p-3.ensures)) (puts_then c.put_coordinate-p.ensures (puts_then c.put_coordinate-p-2.ensures (puts_then c.put_coordinate-p-3.ensures (puts_byte c.put_byte.ensures))))))
