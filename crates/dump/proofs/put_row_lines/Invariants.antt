-- What `put_row_lines` puts for each row.
use Rattle.dump.specs.Rows.{wire_line, joint_line, component_line}
use Rattle.dump.proofs.put_row_lines.Given as goal

abbrev pub ghost-put_lines : goal.ghost-put_lines
ghost-put_lines a = record { of = wire_line; most = 22 }

abbrev pub ghost-put_lines-2 : goal.ghost-put_lines-2
ghost-put_lines-2 a = record { of = joint_line; most = 25 }

abbrev pub ghost-put_lines-3 : goal.ghost-put_lines-3
ghost-put_lines-3 a = record { of = component_line; most = 53 }
