-- `dump::put_row_lines` meets its contract: the tally and three tables.
use native.Mathlib.Omega.{arith}
use Prim.Native.Nat.{◌≤◌}
use lib.ListN.{length}
use Rattle.std.proofs.lemmas.List.{length-take}
use Rattle.sheet.specs.Drawings.{wire_rows, joint_rows, component_rows}
use Rattle.dump.proofs.Runs.{puts_then, puts_rows}
use Rattle.dump.specs.Rows.{wire_line, joint_line, component_line, row_lines}
use Rattle.dump.proofs.put_row_lines.Goals as goal

pub returns : goal.returns
unfolding row_lines
returns c =
    let d = c.args.d in
    let r = c.requires.lawful.rule1 in
    let ws : length (wire_rows d.wires) ≤ 512 = omega (arith, r.wire_room, length-take d.wires.count d.wires.rows) in
    let js : length (joint_rows d.joints) ≤ 1408 = omega (arith, r.joint_room, length-take d.joints.count d.joints.rows) in
    let cs : length (component_rows d.components) ≤ 128 = omega (arith, r.component_room, length-take d.components.count d.components.rows) in
    puts_then c.put_tally-p.ensures (puts_then (puts_rows wire_line 22 512 c.put_lines-p.ensures c.in_use.ensures ws) (puts_then (puts_rows joint_line 25 1408 c.put_lines-p-2.ensures c.in_use-2.ensures js) (puts_rows component_line 53 128 c.put_lines.ensures c.in_use-3.ensures cs)))
