-- `save_line` meets its contract: the line's step, its number, and what is told of it.
use Rattle.panel_save.proofs.Taken.{line_taken}
use Rattle.panel_save.proofs.lines_taken.save_line.Goals as goal

pub returns : goal.returns
returns g c =
    line_taken c.args.s c.args.line.now c.requires.room c.step_on-a.ensures c.next_line_number-number.ensures c.tell_refusal-told.ensures
