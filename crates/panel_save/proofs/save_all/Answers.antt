-- `save_all` meets its contract: all that was read, and the end.
use Rattle.panel_save.proofs.Reading.{all_saved}
use Rattle.panel_save.proofs.save_all.Goals as goal

pub returns : goal.returns
returns g c = all_saved c.read_lines-r.ensures c.finish.ensures
