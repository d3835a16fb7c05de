-- `label_from` meets its contract: the bytes from the index on, or none.
use Rattle.sketch.proofs.Adding.{label_bytes, no_bytes}
use Rattle.sketch.proofs.label_from.Goals as goal

pub returns-then-at-line : goal.returns-then-at-line
returns-then-at-line c = label_bytes c.args.line.now c.args.at c.label_of-l.ensures

pub returns : goal.returns
returns c = no_bytes c.args.line.now c.args.at c.if-at-line.false
