-- `put_fitting` meets its contract: the line fits, or nothing is put.
use Rattle.telling.proofs.Telling.{fits, fits_not}
use Rattle.telling.proofs.put_fitting.Goals as goal

pub returns-then-line-out : goal.returns-then-line-out
returns-then-line-out c = fits c.requires.at_within c.if-line-out.true c.put_bytes.ensures

pub returns : goal.returns
returns c = fits_not c.requires.at_within c.if-line-out.false
