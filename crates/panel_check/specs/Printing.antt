-- How the program stands to what it is to print ("The drawing check names the first broken rule"). The answers so far are those that were
-- written out and, behind them, those that wait in front of a buffer `out`: they wait for the end of the input, and are written out before
-- it only where there is no room for more. Written out is what was handed to standard output, whether or not the system took it.
use Rattle.std.specs.Prelude.{◌≡◌, true, false, cond, List, [], ◌++◌, ℕ, ◌<◌, ◌≤◌, leb, length, take}
use Rattle.sheet.specs.declared.Drawing.{Drawing}
use Rattle.lines.specs.Runs.{ran, through_chunk, chunks, joined, through}
use Rattle.lines.specs.Lines.{lines_of}
use Rattle.panel_check.specs.declared.State.{State}
use Rattle.panel_check.specs.declared.Carried.{Carried}
use Rattle.panel_check.specs.declared.Waiting.{Waiting}
use Rattle.panel_check.specs.Telling.{Told, told_nothing, verdict_of, told_after, concluded, answers_of}

-- the bytes written out before the end: none, or more than 65,500
pub data Spilled : List ℕ → Type 0 where
  none : Spilled []
  many : {w : List ℕ} → 65500 < length w → Spilled w

-- how many of the bytes used stay, so that there is room for an answer
abbrev pub kept_of : ℕ → ℕ
kept_of used = cond (leb used 65500) used 0

-- the run r, with `written` written out and its other answers in front of out
abbrev pub told_so_far : State → List ℕ → List ℕ → Told
told_so_far r written out = record {
  sketch = r.sketch;
  begun = r.begun;
  lines = r.lines;
  stopped = r.stopped;
  answers = written ++ take r.used out;
}

-- the answer to d stands behind the first `used` bytes of out; what is not in front of out' was written out
pub record Appended (d : Drawing) (used : ℕ) (out : List ℕ) (n : ℕ) (out' : List ℕ) : Type 0 where
  pub written : List ℕ
  pub spilled : Spilled written
  pub within : length written ≤ used
  pub all : written ++ take n out' ≡ take used out ++ verdict_of d
  pub fits : n ≤ 65536

-- q and out' are r and out after a line, whatever was written out before
pub record Takes (r : State) (line out : List ℕ) (q : State) (out' : List ℕ) : Type 0 where
  pub written : List ℕ
  pub spilled : Spilled written
  pub told : (before : List ℕ) → told_so_far q (before ++ written) out' ≡ told_after (told_so_far r before out) line
  pub fits : q.used ≤ 65536

-- The same for the lines of a chunk, behind the first `count` bytes held. If a write failed, the lines behind were not taken.
pub record Done (r : State) (chunk held : List ℕ) (count : ℕ) (out : List ℕ) (q : Carried) (held' out' : List ℕ) : Type 0 where
  pub written : List ℕ
  pub spilled : Spilled written
  pub whole : q.run.failed ≡ false → (before : List ℕ) → ran (told_so_far q.run (before ++ written) out') (take q.count held') ≡ through_chunk told_after (told_so_far r before out) (take count held) chunk
  pub fits : q.run.used ≤ 65536
  pub few : q.count ≤ 81

-- the state after a read that failed
abbrev pub after_failure : State → State
after_failure r = record { sketch = r.sketch; begun = r.begun; lines = r.lines; stopped = r.stopped; used = r.used; failed = true }

-- the run and the bytes held are those of some chunks, read from the start, unless something failed
pub record Read (q : Carried) (held out : List ℕ) : Type 0 where
  pub input : List (List ℕ)
  pub written : List ℕ
  pub spilled : Spilled written
  pub gives : q.run.failed ≡ false → chunks told_after (ran told_nothing []) input ≡ ran (told_so_far q.run written out) (take q.count held)
  pub fits : q.run.used ≤ 65536
  pub few : q.count ≤ 81

-- The end of a run: what is written out by now, and the first n bytes of out', are all that is to be printed; where a line was
-- unreadable, those n bytes alone are. Nothing is written out but answers to drawings before.
pub record Concludes (t : List ℕ → Told) (n : ℕ) (out' : List ℕ) : Type 0 where
  pub written : List ℕ
  pub spilled : Spilled written
  pub within : (before : List ℕ) → length (before ++ written) ≤ length (t before).answers
  pub all : (before : List ℕ) → cond (t before).stopped [] (before ++ written) ++ take n out' ≡ concluded (t before)
  pub fits : n ≤ 65536

-- The first n bytes of out complete what is printed of an input: they are the whole answer, unless more than 65,500 bytes of answers were
-- written out before. These are in front of it; or, where a later line was unreadable, stay from before it.
pub record Completes (input : List ℕ) (n : ℕ) (out : List ℕ) : Type 0 where
  pub written : List ℕ
  pub spilled : Spilled written
  pub within : length written ≤ length (through told_after told_nothing (lines_of input)).answers
  pub all : cond (through told_after told_nothing (lines_of input)).stopped [] written ++ take n out ≡ answers_of input

-- some chunks were read, and unless something failed, the bytes that wait in front of out complete what is printed of them
pub record Printed (w : Waiting) (out : List ℕ) : Type 0 where
  pub input : List (List ℕ)
  pub whole : w.failed ≡ false → Completes (joined input) w.used out
  pub fits : w.used ≤ 65536
