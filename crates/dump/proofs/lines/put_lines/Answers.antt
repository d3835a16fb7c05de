-- `put_lines` meets its contract: each line is the next of those left.
use native.Mathlib.Nat.{mul-add}
use native.Mathlib.Omega.{arith}
use mathlib.Core.Path.{ap}
use Rattle.std.specs.List.{flat_map}
use Rattle.text.proofs.Puts.{todo_step}
use Rattle.text.proofs.Loops.{row_and_rest}
use Rattle.dump.proofs.lines.put_lines.Goals as goal

pub loop-row-preserved : goal.loop-row-preserved
loop-row-preserved g c =
    let l = c.loop-row in
    let p = c.requires.1.1.1.0 _ _ _ _ _ c.put-next.ensures in
    record {
      todo = todo_step l.invariant.todo (ap (flat_map g.line.of) (row_and_rest c.args.rows.now l.row-index c.row-item.is c.loop-row-test.true)) p.put;
      so_far = omega (arith, p.put.behind, p.short, mul-add g.line.most l.row-index 1);
    }
