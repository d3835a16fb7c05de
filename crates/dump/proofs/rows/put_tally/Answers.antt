-- `dump::put_tally` meets its contract: a letter and four numbers.
use Rattle.dump.proofs.Runs.{puts_byte, puts_then}
use Rattle.dump.specs.Rows.{tally_line}
use Rattle.dump.proofs.rows.put_tally.Goals as goal

pub returns : goal.returns
unfolding tally_line
returns c =
    puts_then (puts_byte c.put_byte-p.ensures) (puts_then c.put_count-p.ensures (puts_then c.put_count-p-2.ensures (puts_then c.put_count-p-3.ensures (puts_then c.put_count-p-4.ensures (puts_byte c.put_byte.ensures)))))
