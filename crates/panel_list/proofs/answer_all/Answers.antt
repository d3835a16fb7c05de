-- `panel_list::answer_all` meets its contract: all that was read, and the end.
use Rattle.panel_list.proofs.Reading.{all_printed}
use Rattle.panel_list.proofs.answer_all.Goals as goal

pub returns : goal.returns
returns g c = all_printed c.read_lines-r.ensures c.finish.ensures
