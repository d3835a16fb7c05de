-- `finish` meets its contract: with the last line, or without.
use native.Mathlib.Omega.{arith}
use Rattle.panel_check.proofs.Ending.{last_line, no_line}
use Rattle.panel_check.proofs.finish.Goals as goal

pub returns-then-count-gt0 : goal.returns-then-count-gt0
returns-then-count-gt0 g c =
    last_line c.args.r c.args.held.now c.args.out.now c.args.count _ _ c.if-count-gt0.true c.requires.within c.take_line-last.ensures c.tell-w.ensures

pub returns : goal.returns
returns g c =
    no_line c.args.r c.args.held.now c.args.out.now c.args.count (omega (arith, c.if-count-gt0.false)) c.tell.ensures
