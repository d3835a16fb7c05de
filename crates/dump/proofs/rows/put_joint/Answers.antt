-- `dump::put_joint` meets its contract: a letter, two coordinates and a number.
use Rattle.dump.proofs.Runs.{puts_byte, puts_then}
use Rattle.dump.specs.Rows.{joint_line}
use Rattle.dump.proofs.rows.put_joint.Goals as goal

pub returns : goal.returns
unfolding joint_line
returns c =
    puts_then (puts_byte c.put_byte-p.ensures) (puts_then c.put_coordinate-p.ensures (puts_then c.put_coordinate-p-2.ensures (puts_then c.put_count-p.ensures (puts_byte c.put_byte.ensures))))
