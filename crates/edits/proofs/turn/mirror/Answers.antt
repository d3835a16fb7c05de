-- One turn.
use Rattle.std.proofs.Common.{rules, ◌≡◌}
use Rattle.sheet.specs.Edits.{mirror}
use Rattle.sheet.specs.Parts.{mirrored}
use Rattle.edits.proofs.turn.mirror.Goals as goal

pub returns : goal.returns
unfolding mirror
returns c = c.turn.ensures mirrored (λ d r fit k. let e : r ≡ mirrored d = search rules in e)
