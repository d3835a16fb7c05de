-- Below the program's contract: what its functions leave to each other. Of what was told they keep the sum alone.
use Rattle.std.specs.Prelude.{◌≡◌, true, false, List, [], ℕ, ◌≤◌, take}
use Rattle.sheet.specs.declared.Drawing.{Drawing}
use Rattle.sheet.specs.Drawings.{empty_sheet, lists_of, drawn}
use Rattle.sheet.specs.Rules.{Lawful}
use Rattle.lines.specs.Runs.{ran, through_chunk, chunks, finish}
use Rattle.step.specs.Steps.{step_of}
use Rattle.step.specs.Scripts.{no_tally, redrawn}
use Rattle.saved.specs.File.{file_of}
use Rattle.streams.specs.Sums.{sum_of}
use Rattle.panel_save.specs.declared.lines_taken.State.{State}
use Rattle.panel_save.specs.declared.Run.{Run}
use Rattle.panel_save.specs.declared.Done.{Done}
use Rattle.panel_save.specs.Saving.{next_line, refusal_of}

-- ---- a line

abbrev pub state : Drawing → ℕ → ℕ → State
state d n told = record { drawing = d; line = n; told = told }

-- before the first line
abbrev pub begin : State
begin = state (drawn empty_sheet) 0 0

-- a line more, with the sum of what is told of it
abbrev pub take_line : State → List ℕ → State
take_line s line =
    state (redrawn s.drawing line) (next_line s.line) (sum_of s.told (refusal_of (next_line s.line) (step_of s.drawing no_tally line).outcome.reply))

-- a line was taken, and the drawing is lawful
pub record Takes (s : State) (line : List ℕ) (r : State) : Type 0 where
  pub is : r ≡ take_line s line
  pub lawful : Lawful r.drawing

-- ---- the input

-- all lines that end in a chunk were taken, behind the bytes held
pub record TakesChunk (q : Run) (chunk held : List ℕ) (r : Run) (held' : List ℕ) : Type 0 where
  pub whole : ran r.state (take r.count held') ≡ through_chunk take_line q.state (take q.count held) chunk
  pub lawful : Lawful r.state.drawing
  pub few : r.count ≤ 81

-- the run after a read that failed
abbrev pub after_failure : Run → Run
after_failure r = record { state = r.state; count = r.count; failed = true }

-- some chunks were read, and all lines that end in them were taken
pub record Read (r : Run) (held : List ℕ) : Type 0 where
  pub input : List (List ℕ)
  pub gives : chunks take_line (ran begin []) input ≡ ran r.state (take r.count held)
  pub lawful : Lawful r.state.drawing
  pub few : r.count ≤ 81

-- ---- its end

-- a line without a newline was taken, if it is not empty
pub record TakesLast (s : State) (count : ℕ) (held : List ℕ) (r : State) : Type 0 where
  pub is : r ≡ finish take_line (ran s (take count held))
  pub lawful : Lawful r.drawing

-- the file of a drawing was handed to standard output, and nothing to standard error behind what was told before
pub record WritesFile (d : Drawing) (before : ℕ) (o : Done) : Type 0 where
  pub told : o.told ≡ before
  pub file : o.sum ≡ sum_of 0 (file_of (lists_of d))

-- unless something failed, the last line was taken, and the file of the drawing after it was handed over
pub record Finished (r : Run) (held : List ℕ) (o : Done) : Type 0 where
  pub told : o.failed ≡ false → o.told ≡ (finish take_line (ran r.state (take r.count held))).told
  pub file : o.failed ≡ false → o.sum ≡ sum_of 0 (file_of (lists_of (finish take_line (ran r.state (take r.count held))).drawing))
