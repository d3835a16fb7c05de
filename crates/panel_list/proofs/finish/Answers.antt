-- `panel_list::finish` meets its contract: after a failure nothing; no line has begun; or the line that has is answered and handed over.
use Rattle.std.proofs.Common.{arith, length-take-le}
use Rattle.step.proofs.Fitting.{whole_answer}
use Rattle.panel_list.proofs.Printed.{answer_front}
use Rattle.panel_list.proofs.Reading.{last_line}
use Rattle.panel_list.proofs.finish.Goals as goal

pub returns-then-begun : goal.returns-then-begun
returns-then-begun g c =
    last_line c.args.run c.args.held.now c.if-run.false
    (omega (arith, length-take-le c.args.run.count c.args.held.now c.requires.within, c.if-begun.true))
    (answer_front (whole_answer c.step_on-s.ensures c.requires.room)) c.write_block.ensures.sum
