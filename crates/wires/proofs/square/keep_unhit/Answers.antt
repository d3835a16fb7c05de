-- The square, and what it does not meet.
use Rattle.std.proofs.Common.{ap, not}
use Rattle.std.specs.List.{filter}
use Rattle.symbol.specs.declared.Bounds.{Bounds}
use Rattle.symbol.specs.Symbols.{touches_of}
use Rattle.lists.proofs.Tables.{holds_as}
use Rattle.sheet.specs.Boxes.{line}
use Rattle.sheet.specs.Edits.{meets_wire}
use Rattle.wires.proofs.square.keep_unhit.Goals as goal

pub returns : goal.returns
unfolding meets_wire
returns c = holds_as (ap (λ (b : Bounds). filter (λ w. not (touches_of b (line w))) c.args.ws.now) c.square.ensures) c.keep_clear.ensures
