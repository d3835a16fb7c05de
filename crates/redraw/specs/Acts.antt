-- Below the calls: the three edits about a pointer, as one: "Delete.", "Turn right, mirror."
use Rattle.std.specs.Prelude.{ℕ}
use Rattle.symbol.specs.declared.Point.{Point}
use Rattle.sheet.specs.Drawings.{Sheet}
use Rattle.sheet.specs.Edits.{Outcome, delete, turn_right, mirror}
use Rattle.edits.specs.Making.{quiet}
use Rattle.redraw.specs.declared.pointer.Act.{Act}
use Rattle.redraw.specs.declared.pointer.Act.TheVariants.{Delete, TurnRight, Mirror}

-- the edit of each of the three
abbrev pub acted : Act → Point → ℕ → Sheet → Outcome
acted Delete p n s = quiet (delete p n s)
acted TurnRight p n s = turn_right p n s
acted Mirror p n s = mirror p n s
