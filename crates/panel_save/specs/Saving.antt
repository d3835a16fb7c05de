-- What the program is to hand over: "a script in, the file of the drawing at its end out, and nothing else on standard output; each line that
-- isn't answered with 0 is told on standard error as `line <n>: A <reply>`". `Saves` is its contract, over all that it read.
use Rattle.std.specs.Prelude.{◌≡◌, false, cond, List, [], ◌++◌, ℕ, ◌+◌, eqb, ltb}
use Rattle.sheet.specs.declared.Drawing.{Drawing}
use Rattle.sheet.specs.Drawings.{empty_sheet, lists_of, drawn}
use Rattle.text.specs.Text.{decimal_of}
use Rattle.script.specs.Grammar.{bytes}
use Rattle.lines.specs.Lines.{lines_of}
use Rattle.lines.specs.Runs.{through, joined}
use Rattle.telling.specs.Told.{answered}
use Rattle.step.specs.Steps.{step_of}
use Rattle.step.specs.Scripts.{no_tally, redrawn}
use Rattle.saved.specs.File.{file_of}
use Rattle.streams.specs.Sums.{sum_of}
use Rattle.panel_save.specs.declared.Done.{Done}

-- the number of the next line, from 1. (A line behind the 4,294,967,295th is told by that number.)
unfoldable pub next_line : ℕ → ℕ
next_line n = cond (ltb n 4294967295) (n + 1) n

-- what is told of the line of a number: nothing, or `line <n>: A <reply>`
unfoldable pub refusal_of : ℕ → ℕ → List ℕ
refusal_of n reply = cond (eqb reply 0) [] (bytes "line " ++ (decimal_of n ++ (bytes ": " ++ answered reply)))

-- how far a script is: the drawing, the number of the last line, and all that was told
pub record Saving : Type 0 where
  pub drawing : Drawing
  pub line : ℕ
  pub told : List ℕ

abbrev pub saving : Drawing → ℕ → List ℕ → Saving
saving d n told = record { drawing = d; line = n; told = told }

-- a line more
abbrev pub and_line : Saving → List ℕ → Saving
and_line a line =
    saving (redrawn a.drawing line) (next_line a.line) (a.told ++ refusal_of (next_line a.line) (step_of a.drawing no_tally line).outcome.reply)

-- a script, from the empty drawing
unfoldable pub saving_of : List ℕ → Saving
saving_of input = through and_line (saving (drawn empty_sheet) 0 []) (lines_of input)

-- Some chunks were read, up to the end of the input; and unless something failed, what was handed to standard error is what is told of the
-- script's lines, and what was handed to standard output is the file of the drawing at its end: their sums are the sums.
pub record Saves (o : Done) : Type 0 where
  pub input : List (List ℕ)
  pub told : o.failed ≡ false → o.told ≡ sum_of 0 (saving_of (joined input)).told
  pub file : o.failed ≡ false → o.sum ≡ sum_of 0 (file_of (lists_of (saving_of (joined input)).drawing))
