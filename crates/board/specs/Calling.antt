-- A script line as a call on a lent drawing and tally, and what is then printed: what the call prints, and behind an edit the tally and
-- every row. The call is the contract's definition, `step_of` in a lent buffer (crate `line_call`).
use Rattle.std.specs.Prelude.{ℕ, cond, List, [], ◌∷◌, ◌++◌}
use Prim.Native.String.{String}
use Rattle.sheet.specs.declared.Drawing.{Drawing}
use Rattle.sheet.specs.declared.Tally.{Tally}
use Rattle.sheet.specs.Drawings.{empty_sheet, drawn}
use Rattle.script.specs.Grammar.{bytes}
use Rattle.script.specs.Reading.{command_of}
use Rattle.telling.specs.Told.{After, printed, in_room}
use Rattle.step.specs.Steps.{step_of}
use Rattle.telling.specs.Fitting.{asks_list}
use Rattle.dump.specs.Rows.{rows_of}

-- a line called with a buffer of 8,192 bytes
abbrev pub called : Drawing → Tally → List ℕ → After
called d t line = in_room 8192 (step_of d t line)

-- behind a list `.` and a newline alone, else the tally and all rows
abbrev pub behind : List ℕ → After → List ℕ
behind line a = cond (asks_list (command_of line)) (bytes ".\n") (rows_of a.outcome.tally a.outcome.drawing)

-- what each line of a script prints
unfoldable pub printed_by : Drawing → Tally → List String → List (List ℕ)
printed_by d t [] = []
printed_by d t (l ∷ ls) =
    let a = called d t (bytes l) in
    (printed a ++ behind (bytes l) a) ∷ printed_by a.outcome.drawing a.outcome.tally ls

-- "starts from the empty drawing"
abbrev pub empty_drawing : Drawing
empty_drawing = drawn empty_sheet

-- the tally that is lent: no drawing has it, so that a refusal is seen to leave it
abbrev pub nines : Tally
nines = record { wires = 9; joints = 9; components = 9; ends = 9 }

-- lines as bytes, each with its newline; a line `.` ends what one line of a script prints
abbrev pub text : List String → List ℕ
text [] = bytes ".\n"
text (l ∷ ls) = bytes l ++ (10 ∷ text ls)
