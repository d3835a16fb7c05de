-- What is printed for an input of drawings, each given row by row: "Several drawings, each ended by a line `.`, give one answer line
-- each", and "a line that no row can hold is told as `unreadable LINE-NUMBER`, and nothing else is printed".
use Rattle.std.specs.Prelude.{Bool, true, false, cond, not, List, [], ◌++◌, ℕ}
use Rattle.sheet.specs.declared.Drawing.{Drawing}
use Rattle.rules.specs.Check.{check_of}
use Rattle.check_script.specs.Reading.{said_of}
use Rattle.sketch.specs.declared.Sketch.{Sketch}
use Rattle.sketch.specs.Sketches.{Added, empty_sketch, added_of}
use Rattle.lines.specs.Lines.{lines_of}
use Rattle.lines.specs.Runs.{through}
use Rattle.panel_check.specs.Answers.{verdict_line, unreadable_of, is_end, next_number}

-- How far the lines are told: the drawing that has begun, if it has a line; the number of the last line, and whether no row can hold
-- it; and the answers to the drawings before.
pub record Told : Type 0 where
  pub sketch : Sketch
  pub begun : Bool
  pub lines : ℕ
  pub stopped : Bool
  pub answers : List ℕ

-- before the first line
abbrev pub told_nothing : Told
told_nothing = record { sketch = empty_sketch; begun = false; lines = 0; stopped = false; answers = [] }

-- the answer to a drawing
abbrev pub verdict_of : Drawing → List ℕ
verdict_of d = verdict_line (check_of d).rule (check_of d).first (check_of d).second

-- a line `.`: the drawing is answered, and the next has no row yet
abbrev pub ended : Told → Told
ended t = record {
  sketch = empty_sketch;
  begun = false;
  lines = next_number t.lines;
  stopped = false;
  answers = t.answers ++ verdict_of t.sketch.drawing;
}

-- a line of the drawing, as it was added to the sketch or not
abbrev pub with_line : Told → Added → Told
with_line t a = record { sketch = a.sketch; begun = true; lines = next_number t.lines; stopped = not a.held; answers = t.answers }

-- a line more; behind a line that no row can hold none is looked at
unfoldable pub told_after : Told → List ℕ → Told
told_after t line = cond t.stopped t (cond (is_end (said_of line)) (ended t) (with_line t (added_of t.sketch line (said_of line))))

-- the end of the input: the unreadable line alone; or the answers, with that to a last drawing without `.`, if it has a line
unfoldable pub concluded : Told → List ℕ
concluded t = cond t.stopped (unreadable_of t.lines) (t.answers ++ cond t.begun (verdict_of t.sketch.drawing) [])

-- what is printed for a whole input
unfoldable pub answers_of : List ℕ → List ℕ
answers_of input = concluded (through told_after told_nothing (lines_of input))
