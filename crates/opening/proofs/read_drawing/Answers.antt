-- `opening::read_drawing` meets its contract.
use Rattle.opening.proofs.Opening.{front_read, front_refused}
use Rattle.opening.proofs.read_drawing.Goals as goal

pub returns-in-Ok : goal.returns-in-Ok
returns-in-Ok c = front_read c.args.at c.args.bytes.now c.in-Ok.ensures.is c.in-Ok.ensures.inside

pub returns-in-Err : goal.returns-in-Err
returns-in-Err c = front_refused c.args.at c.args.bytes.now c.empty_drawing-drawing.ensures.0 c.from.ensures c.in-Err.ensures.is
