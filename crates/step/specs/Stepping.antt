-- Below the calls: a line of a lawful drawing, which stays lawful.
use Rattle.std.specs.Prelude.{List, ℕ}
use Rattle.sheet.specs.declared.Drawing.{Drawing}
use Rattle.sheet.specs.declared.Tally.{Tally}
use Rattle.sheet.specs.Rules.{Lawful}
use Rattle.telling.specs.declared.Stepped.{Stepped}
use Rattle.telling.specs.Fitting.{Tells}
use Rattle.step.specs.Steps.{step_of}

-- what came of a line of a lawful drawing is told in a buffer; the drawing stays lawful
pub record Steps (d : Drawing) (t : Tally) (line old new : List ℕ) (r : Stepped) : Type 0 where
  pub tells : Tells (step_of d t line) old new r
  pub lawful : Lawful r.edited.drawing
