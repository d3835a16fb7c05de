-- `opening::open` meets its contract.
use Rattle.opening.proofs.Opening.{file_read, file_refused}
use Rattle.opening.proofs.open.Goals as goal

pub returns-in-Ok : goal.returns-in-Ok
returns-in-Ok c = file_read c.args.bytes.now c.in-Ok.ensures.is

pub returns-in-Err : goal.returns-in-Err
returns-in-Err c = file_refused c.args.bytes.now c.empty_drawing-none.ensures.0 c.from.ensures c.in-Err.ensures.is
