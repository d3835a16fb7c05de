-- A script: its lines one after the other (document 01, "panel_list").
use Rattle.std.specs.Prelude.{List, [], ◌++◌, ℕ}
use Rattle.sheet.specs.declared.Drawing.{Drawing}
use Rattle.sheet.specs.declared.Tally.{Tally}
use Rattle.sheet.specs.Drawings.{empty_sheet, drawn}
use Rattle.lines.specs.Lines.{lines_of}
use Rattle.lines.specs.Runs.{through}
use Rattle.telling.specs.Told.{printed}
use Rattle.step.specs.Steps.{step_of}

-- no line prints the tally
abbrev pub no_tally : Tally
no_tally = record { wires = 0; joints = 0; components = 0; ends = 0 }

-- how far a script is: the drawing, and all that was printed
pub record Progress : Type 0 where
  pub drawing : Drawing
  pub output : List ℕ

abbrev pub progress : Drawing → List ℕ → Progress
progress d output = record { drawing = d; output = output }

-- "starts from the empty drawing"
abbrev pub start : Progress
start = progress (drawn empty_sheet) []

-- the drawing after a line more
abbrev pub redrawn : Drawing → List ℕ → Drawing
redrawn d line = (step_of d no_tally line).outcome.drawing

-- a line more: what it prints stands behind what was printed
abbrev pub and_then : Progress → List ℕ → Progress
and_then a line = progress (redrawn a.drawing line) (a.output ++ printed (step_of a.drawing no_tally line))

-- what a script prints
unfoldable pub script_of : List ℕ → List ℕ
script_of input = (through and_then start (lines_of input)).output
