-- Inputs, and what is printed for them.
use mathlib.Core.Path.{◌≡◌, refl}
use mathlib.Core.List.{List, [], ◌∷◌, ◌++◌, map, append-nil}
use Prim.Native.String.{String}
use Rattle.text.specs.Text.{digits_in, decimal_of}
use Rattle.script.specs.Grammar.{bytes}
use Rattle.script.specs.Reading.{digits_of, whole_of, signed_numeral, numeral_of, field_of}
use Rattle.check_script.specs.Reading.{fitted, fitted_field, vertical_of, direction_of, wire_of, joint_of, row_of, counted_of, count_of, line_said, said_of}
use Rattle.sketch.specs.Sketches.{empty_sketch, added_of}
use Rattle.lines.specs.Lines.{lines_from, lines_of}
use Rattle.lines.specs.Runs.{through}
use Rattle.panel_check.specs.Answers.{unreadable_of}
use Rattle.panel_check.specs.Telling.{verdict_of, told_after, concluded, answers_of}

-- lines of drawings before and behind the unreadable one, the lines `.` counted; an empty line; a last line without a newline;
-- and an empty input
unreadables : List (String × String)
unreadables =
    ("x\n", "unreadable 1\n")
    ∷ ("\n.\n", "unreadable 1\n")
    ∷ (".\n.\n..\n.\n", "unreadable 3\n")
    ∷ ("# w 3\n.\nW h 0 0 9\nx\ny\n.\n", "unreadable 4\n")
    ∷ (".\nx", "unreadable 2\n")
    ∷ ("", "")
    ∷ []

told_alone : map (λ e. answers_of (bytes e.0)) unreadables ≡ map (λ e. bytes e.1) unreadables
unfolding unreadables answers_of concluded told_after through lines_of lines_from unreadable_of decimal_of digits_in added_of digits_of whole_of signed_numeral numeral_of field_of fitted fitted_field vertical_of direction_of wire_of joint_of row_of counted_of count_of line_said said_of
told_alone = refl

-- a drawing of no line is answered at its `.`, with or without a newline
two_empty : answers_of (bytes ".\n.") ≡ verdict_of empty_sketch.drawing ++ verdict_of empty_sketch.drawing
unfolding answers_of concluded told_after through lines_of lines_from added_of count_of line_said said_of row_of
two_empty = append-nil (verdict_of empty_sketch.drawing ++ verdict_of empty_sketch.drawing)

-- a last drawing is answered as if it were ended by `.`
last_drawing : answers_of (bytes "# w 3\n.\n") ≡ answers_of (bytes "# w 3\n")
unfolding answers_of concluded told_after through lines_of lines_from added_of digits_of whole_of signed_numeral numeral_of field_of row_of counted_of count_of line_said said_of
last_drawing = append-nil _
