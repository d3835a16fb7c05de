-- `put_components` meets its contract: a component is the next of those left.
use Rattle.text.proofs.Puts.{todo_step}
use Rattle.text.proofs.Loops.{next_row}
use Rattle.saved.specs.File.{part_bytes}
use Rattle.save.proofs.rows.put_components.Goals as goal

pub loop-c-preserved : goal.loop-c-preserved
loop-c-preserved c = let l = c.loop-c in todo_step l.invariant (next_row part_bytes c.args.cs.now l.c-index _ c.loop-c-test.true) c.put_component-next.ensures
