-- `dump::put_component` meets its contract: a letter, two numbers, two coordinates and the label.
use native.Mathlib.Omega.{arith}
use Rattle.dump.proofs.Runs.{puts_byte, puts_then}
use Rattle.dump.specs.Rows.{component_line}
use Rattle.dump.proofs.rows.put_component.Goals as goal

pub put_byte-requires : goal.put_byte-requires
put_byte-requires c =
    omega (arith, c.requires, c.put_byte-p.ensures.behind, c.put_count-p.ensures, c.put_count-p-2.ensures, c.put_coordinate-p.ensures, c.put_coordinate-p-2.ensures, c.put_label-p.ensures)

pub returns : goal.returns
unfolding component_line
returns c =
    puts_then (puts_byte c.put_byte-p.ensures) (puts_then c.put_count-p.ensures (puts_then c.put_count-p-2.ensures (puts_then c.put_coordinate-p.ensures (puts_then c.put_coordinate-p-2.ensures (puts_then c.put_label-p.ensures (puts_byte c.put_byte.ensures))))))
