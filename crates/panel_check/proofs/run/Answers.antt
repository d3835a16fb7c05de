-- `run` meets its contract: something failed; or the lines of all that is read, and then the end.
use Rattle.panel_check.proofs.Ending.{printed, broken}
use Rattle.panel_check.proofs.run.Goals as goal

pub returns-then-r : goal.returns-then-r
returns-then-r g c = broken _ _ _ c.read_lines-t.ensures

pub returns : goal.returns
returns g c = printed _ _ _ c.read_lines-t.ensures c.if-r.false c.finish.ensures
