-- How the program stands to what it is to print ("reads a script on standard input"): `Printed` is its contract, over all that it read.
use Rattle.std.specs.Prelude.{◌≡◌, true, false, List, [], ◌++◌, ℕ, ◌<◌, ◌≤◌, length, take, drop}
use Rattle.sheet.specs.declared.Drawing.{Drawing}
use Rattle.sheet.specs.Rules.{Lawful}
use Rattle.lines.specs.Runs.{ran, through_chunk, chunks, joined, finish}
use Rattle.step.specs.Scripts.{progress, start, and_then, script_of}
use Rattle.panel_list.specs.declared.answers.Answered.{Answered}
use Rattle.panel_list.specs.declared.answers.Taken.{Taken}
use Rattle.streams.specs.declared.output.Output.{Output}
use Rattle.panel_list.specs.declared.Run.{Run}
use Rattle.streams.specs.Sums.{sum_of}

-- ---- a chunk

-- one line's print stands behind the first `used` bytes of out: now there are r.used, and so they are in out'
pub record Prints (d : Drawing) (line : List ℕ) (used : ℕ) (out : List ℕ) (r : Answered) (out' : List ℕ) : Type 0 where
  pub told : progress r.drawing (take r.used out') ≡ and_then (progress d (take used out)) line
  pub lawful : Lawful r.drawing
  pub fits : r.used ≤ length out'

-- Lines of a chunk were taken, behind `held`: with the drawing, the bytes held and the bytes printed (in front of out') that this
-- left, running the rest of the chunk is running the whole. More of the chunk is done than before, if there was any.
pub record Takes (d : Drawing) (chunk held : List ℕ) (count : ℕ) (r : Taken) (held' out' : List ℕ) : Type 0 where
  pub left : through_chunk and_then (progress r.drawing (take r.used out')) (take r.count held') (drop r.at chunk) ≡ through_chunk and_then (progress d []) (take count held) chunk
  pub lawful : Lawful r.drawing
  pub inside : r.at ≤ length chunk
  pub more : 0 < length chunk → 0 < r.at
  pub few : r.count ≤ 81
  pub fits : r.used ≤ length out'

-- All lines that end in a chunk were taken, and `output` was handed over: what they print. If a write failed, the lines behind were not.
pub record Done (d : Drawing) (count sum : ℕ) (chunk held : List ℕ) (q : Run) (held' : List ℕ) : Type 0 where
  pub output : List ℕ
  pub summed : q.sum ≡ sum_of sum output
  pub whole : q.failed ≡ false → (before : List ℕ) → ran (progress q.drawing (before ++ output)) (take q.count held') ≡ through_chunk and_then (progress d before) (take count held) chunk
  pub lawful : Lawful q.drawing
  pub few : q.count ≤ 81

-- ---- the whole input

-- the run after a read that failed
abbrev pub after_failure : Run → Run
after_failure r = record { drawing = r.drawing; count = r.count; sum = r.sum; failed = true }

-- Some chunks were read, and `output` was handed over: what their lines print, unless something failed.
pub record Read (q : Run) (held : List ℕ) : Type 0 where
  pub input : List (List ℕ)
  pub output : List ℕ
  pub sum : q.sum ≡ sum_of 0 output
  pub gives : q.failed ≡ false → chunks and_then (ran start []) input ≡ ran (progress q.drawing output) (take q.count held)
  pub lawful : Lawful q.drawing
  pub few : q.count ≤ 81

-- The end of the input, behind `before`: a line without a newline is answered if it is not empty. If nothing fails, that is handed over too.
pub record Finished (r : Run) (held : List ℕ) (o : Output) : Type 0 where
  pub going : o.failed ≡ false → r.failed ≡ false
  pub whole : o.failed ≡ false → (before : List ℕ) → r.sum ≡ sum_of 0 before → o.sum ≡ sum_of 0 (finish and_then (ran (progress r.drawing before) (take r.count held))).output

-- Some chunks were read, up to the end of the input; and unless something failed, the bytes handed over, one behind the other, are what the
-- script prints that they are: their sum is its sum.
pub record Printed (o : Output) : Type 0 where
  pub input : List (List ℕ)
  pub all : o.failed ≡ false → o.sum ≡ sum_of 0 (script_of (joined input))
