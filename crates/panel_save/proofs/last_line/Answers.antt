-- `last_line` meets its contract: the line that has begun, or none.
use Rattle.std.proofs.Common.{arith, length-take-le}
use Rattle.panel_save.proofs.Ending.{last_line, no_line}
use Rattle.panel_save.proofs.last_line.Goals as goal

pub returns-then-count-gt0 : goal.returns-then-count-gt0
returns-then-count-gt0 g c =
    last_line c.args.state c.args.count c.args.held.now
    (omega (arith, length-take-le c.args.count c.args.held.now c.requires.within, c.if-count-gt0.true)) c.save_line.ensures

pub returns : goal.returns
returns g c = no_line c.args.state c.args.count c.args.held.now (omega (arith, c.if-count-gt0.false)) c.requires.lawful
