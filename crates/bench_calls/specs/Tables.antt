-- Beside the calls: operations on the tables of a drawing ("Numbers and rows"), by number; each answers how many rows come out, or a number
-- of one of them.
use Rattle.std.specs.Prelude.{ℕ, ◌%◌, false, cond, not, List, [], eqb, ltb, ℤ, length, get_or}
use Rattle.lists.specs.Lists.{insert}
use Rattle.std.specs.List.{filter}
use Rattle.lists.specs.Tables.{pad}
use Rattle.sheet.specs.declared.Wire.{Wire}
use Rattle.sheet.specs.declared.Component.{Component}
use Rattle.sheet.specs.declared.Drawing.{Drawing}
use Rattle.sheet.specs.Drawings.{lists_of, marks_of, zero_wire, zero_component}
use Rattle.sheet.specs.Edits.{meets_wire, meets_part}
use Rattle.sheet.specs.Joints.{joints_of}
use Rattle.sheet.specs.Merge.{merge}
use Rattle.sheet.specs.Parts.{ahead, pads_of}
use Rattle.sheet.specs.Run.{lay_wire}
use Rattle.sheet.specs.Split.{split_at}
use Rattle.net_numbers.specs.Netted.{net_numbers}
use Rattle.asked.specs.Asked.{asked_wire, asked_part, asked_pointer}
use Rattle.bench_calls.specs.Numbered.{label}

-- the rows of a table that may have no room: then it has none
unfoldable pub grown_rows : List Wire → ℕ
grown_rows ws = length (cond (ltb 512 (length ws)) [] ws)

-- the line of the wire in a row of the table of the list
abbrev pub line_at : ℕ → List Wire → ℕ
line_at i ws = (get_or (pad 512 zero_wire ws) i zero_wire).line

-- the x of the component in a row of the table of the list
abbrev pub x_at : ℕ → List Component → ℕ
x_at i cs = (get_or (pad 128 zero_component cs) i zero_component).x

-- 8 wires split at the pointer, 9 wires and 10 components that the square does not meet
unfoldable pub pointed_answer : ℕ → ℤ → ℤ → ℤ → Drawing → ℕ
pointed_answer call x y z d =
    let a = asked_pointer x y z in
    let s = lists_of d in
    cond (eqb a.reply 0)
    (cond (eqb call 8) (grown_rows (split_at a.point s.wires))
    (cond (eqb call 9) (line_at (a.size % 512) (filter (λ w. not (meets_wire a.point a.size w)) s.wires))
    (x_at (a.size % 128) (filter (λ c. not (meets_part a.point a.size c)) s.parts))))
    0

-- 11 a horizontal wire laid
unfoldable pub laid_answer : ℤ → ℤ → ℤ → Drawing → ℕ
laid_answer x y z d =
    let a = asked_wire false x y z in
    let s = lists_of d in
    cond (eqb a.reply 0) (grown_rows (lay_wire a.wire s.wires (pads_of s.parts))) 0

-- 12 a contact put in, in row order
unfoldable pub inserted_answer : ℤ → ℤ → Drawing → ℕ
inserted_answer x y d =
    let c = (asked_part 1 0 x y label).part in
    cond (ltb d.components.count 128) (x_at (c.x % 128) (insert ahead c (lists_of d).parts)) 0

-- 13 wires merged, 14 joints counted, 15 pads, 16 the last of the net numbers
unfoldable pub whole_answer : ℕ → Drawing → ℕ
whole_answer call d =
    let s = lists_of d in
    cond (eqb call 13) (length (merge s.wires (pads_of s.parts)))
    (cond (eqb call 14) (length (joints_of (marks_of s)))
    (cond (eqb call 15) (length (pads_of s.parts))
    (get_or (pad 384 0 (net_numbers s)) 383 0)))

-- the operation of a number from 8 on
unfoldable pub table_answer : ℕ → ℤ → ℤ → ℤ → Drawing → ℕ
table_answer call x y z d =
    cond (ltb call 11) (pointed_answer call x y z d)
    (cond (eqb call 11) (laid_answer x y z d)
    (cond (eqb call 12) (inserted_answer x y d)
    (whole_answer call d)))
