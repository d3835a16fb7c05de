-- `dump::put_rows` meets its contract: the rows, and the line that ends them.
use Rattle.dump.proofs.Runs.{puts_byte, puts_then}
use Rattle.dump.specs.Rows.{rows_of}
use Rattle.dump.proofs.put_rows.Goals as goal

pub returns : goal.returns
unfolding rows_of
returns c = puts_then c.put_row_lines-p.ensures (puts_then (puts_byte c.put_byte-p.ensures) (puts_byte c.put_byte.ensures))
