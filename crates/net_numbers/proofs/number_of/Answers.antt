-- `net_numbers::number_of` meets its contract: the place of the point's key, counted from 1.
use Rattle.net_numbers.proofs.Keys.{index_number}
use Rattle.net_numbers.proofs.number_of.Goals as goal

pub returns : goal.returns
returns c = index_number c.find-i.ensures c.key-k.ensures
