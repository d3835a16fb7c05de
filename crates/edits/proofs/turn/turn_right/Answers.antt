-- One turn.
use Rattle.std.proofs.Common.{rules, ◌≡◌}
use Rattle.sheet.specs.Edits.{turn_right}
use Rattle.sheet.specs.Parts.{turned_right}
use Rattle.edits.proofs.turn.turn_right.Goals as goal

pub returns : goal.returns
unfolding turn_right
returns c = c.turn.ensures turned_right (λ d r fit k. let e : r ≡ turned_right d = search rules in e)
