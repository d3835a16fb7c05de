-- Beside the calls: what a line prints: what it prints in panel_list, and behind an edit the rows of the drawing, ended by a line `.`.
use Rattle.std.specs.Prelude.{◌≡◌, Bool, false, cond, List, [], ◌∷◌, ◌++◌, ℕ, ◌≤◌, length, take, drop}
use Rattle.sheet.specs.declared.Drawing.{Drawing}
use Rattle.sheet.specs.Drawings.{lists_of, tally_of}
use Rattle.sheet.specs.Rules.{Lawful}
use Rattle.script.specs.Reading.{command_of}
use Rattle.lines.specs.Runs.{ran, through_chunk}
use Rattle.telling.specs.Told.{printed}
use Rattle.step.specs.Steps.{step_of}
use Rattle.telling.specs.Fitting.{asks_list}
use Rattle.step.specs.Scripts.{Progress, progress, no_tally, redrawn}
use Rattle.dump.specs.Rows.{rows_of}
use Rattle.panel_rows.specs.declared.rows.Printed.{Printed}
use Rattle.panel_rows.specs.declared.Run.{Run}

-- what stands behind the answer: behind a list `.` and a newline alone, else the tally and all rows
unfoldable pub behind : Bool → Drawing → List ℕ
behind list d = cond list (46 ∷ 10 ∷ []) (rows_of (tally_of (lists_of d)) d)

-- the drawing after a line, and what the line prints
unfoldable pub rows_step : Drawing → List ℕ → Progress
rows_step d line = progress (redrawn d line) (printed (step_of d no_tally line) ++ behind (asks_list (command_of line)) (redrawn d line))

-- it stands in front of the lent buffer, and the drawing is lawful
pub record PrintsRows (d : Drawing) (line old new : List ℕ) (r : Printed) : Type 0 where
  pub drawing : r.drawing ≡ redrawn d line
  pub lawful : Lawful r.drawing
  pub length : r.length ≡ length (rows_step d line).output
  pub bytes : new ≡ (rows_step d line).output ++ drop r.length old

-- the lines of a whole chunk were taken, behind the first `count` bytes held, unless a write failed
pub record Done (d : Drawing) (chunk held : List ℕ) (count : ℕ) (r : Run) (held' : List ℕ) : Type 0 where
  pub whole : r.failed ≡ false → ran r.drawing (take r.count held') ≡ through_chunk redrawn d (take count held) chunk
  pub lawful : Lawful r.drawing
  pub few : r.count ≤ 81
