-- `put_parts` meets its contract: the number of components and the components.
use Rattle.text.proofs.Puts.{put_then}
use Rattle.save.proofs.put_parts.Goals as goal

pub returns : goal.returns
returns c = put_then c.put_number-p.ensures c.put_components.ensures
