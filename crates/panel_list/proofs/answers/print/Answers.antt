-- `print` meets its contract: what the line prints stands behind the bytes used.
use Rattle.std.proofs.Common.{arith}
use Rattle.step.proofs.Fitting.{whole_answer}
use Rattle.telling.proofs.Behind.{length_take_all}
use Rattle.panel_list.proofs.Printed.{line_printed}
use Rattle.panel_list.proofs.answers.print.Goals as goal

pub returns : goal.returns
returns c =
    let t = c.step_on-s in
    let room = length_take_all c.args.out.now c.args.used in
    line_printed c.args.drawing c.args.line.now c.args.used c.args.out.now _ (whole_answer t.ensures (omega (arith, c.requires.room, room))) t.ensures.lawful (omega (arith, c.requires.room)) t.auto.out
