-- `put_wires` meets its contract: a wire of the direction is the next of those left, and no other is.
use Rattle.text.proofs.Puts.{todo_step, todo_as}
use Rattle.save.proofs.Directed.{of_it, not_of_it}
use Rattle.save.proofs.rows.put_wires.Goals as goal
use Rattle.save.proofs.rows.put_wires.Goals.{then-w-vertical, else-w-vertical}

pub loop-w-preserved : goal.loop-w-preserved
loop-w-preserved c =
    let l = c.loop-w in
    elim c.if-w-vertical.branch [
      | then-w-vertical w ↦ rw (w.out-is, w.next-is) (todo_step l.invariant (of_it c.args.vertical c.args.ws.now l.w-index _ c.loop-w-test.true w.if-w-vertical.true) w.put_wire-next.ensures)
      | else-w-vertical w ↦ rw (w.out-is, w.next-is) (todo_as l.invariant (not_of_it c.args.vertical c.args.ws.now l.w-index _ c.loop-w-test.true w.if-w-vertical.false))
    ]
