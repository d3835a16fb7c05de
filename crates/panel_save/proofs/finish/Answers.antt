-- `finish` meets its contract: after a failure nothing; else the last line, and the file.
use Rattle.panel_save.proofs.Ending.{failed_before, finished}
use Rattle.panel_save.proofs.finish.Goals as goal

pub returns-then-run : goal.returns-then-run
returns-then-run g c = failed_before c.args.run c.args.held.now

pub returns : goal.returns
returns g c = finished c.args.run c.args.held.now c.last_line-last.ensures c.write_file.ensures
