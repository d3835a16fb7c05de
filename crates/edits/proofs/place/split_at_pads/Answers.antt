-- The points of the block that count are the pads.
use Rattle.std.proofs.Common.{List, subst}
use Rattle.symbol.specs.declared.Point.{Point}
use Rattle.wires.specs.Tables.{Splits}
use Rattle.edits.proofs.place.split_at_pads.Goals as goal

pub returns : goal.returns
returns c = subst (λ (l : List Point). Splits l c.args.ws c.split_all.result) c.pads_of-b.ensures.points_are c.split_all.ensures
