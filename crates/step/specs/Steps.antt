-- What a line of a script does to a lent drawing and what it prints (document 01, "panel_list"). `step_of` is that definition, for every
-- drawing and every line; the call, a script and the examples on the drawing board are made of it. What is printed is `telling`'s `told`.
use Rattle.std.specs.Prelude.{true, false, cond, List, ℕ, ltb, ℤ, pos, negsuc, drop}
use Rattle.label.specs.Labels.{label_of}
use Rattle.sheet.specs.declared.Drawing.{Drawing}
use Rattle.sheet.specs.declared.Tally.{Tally}
use Rattle.redraw.specs.declared.Edited.{Edited}
use Rattle.redraw.specs.Calls.{refused, add_wire, add_component, delete_at, rotate_at, mirror_at}
use Rattle.schematic.specs.Calls.{checked}
use Rattle.script.specs.Commands.{Command, Horizontal, Vertical, Place, Delete, Turn, Mirror, Nets, Unreadable}
use Rattle.script.specs.Reading.{command_of}
use Rattle.telling.specs.Told.{After, told}

-- ---- the edit that a line asks for

-- KIND or ORIENT. 8 stands for every number outside 0 to 7: it is no kind and no orientation, and gets 4.
unfoldable pub choice_of : ℤ → ℕ
choice_of (pos n) = cond (ltb n 8) n 8
choice_of (negsuc n) = 8

-- `n` edits nothing
abbrev pub unedited : Drawing → Tally → Edited
unedited d t = record { reply = 0; tally = t; drawing = d; hit = 0; lost = 0; row = 0 }

-- "Order: 10, 9, 4, ..": 10 before the drawing is looked at, 9 before what is asked. Of the line itself only a label is taken, "the rest of
-- the line".
unfoldable pub edit_of : Drawing → Tally → List ℕ → Command → Edited
edit_of d t line (Horizontal y x1 x2) = checked d t (add_wire d false y x1 x2 t)
edit_of d t line (Vertical x y1 y2) = checked d t (add_wire d true x y1 y2 t)
edit_of d t line (Place kind orient x y at) =
    checked d t (add_component d (choice_of kind) (choice_of orient) x y (label_of (drop at line)) t)
edit_of d t line (Delete x y size) = checked d t (delete_at d x y size t)
edit_of d t line (Turn x y size) = checked d t (rotate_at d x y size t)
edit_of d t line (Mirror x y size) = checked d t (mirror_at d x y size t)
edit_of d t line Nets = checked d t (unedited d t)
edit_of d t line Unreadable = refused 10 d t

-- ---- one line

-- what a line does and prints
unfoldable pub step_of : Drawing → Tally → List ℕ → After
step_of d t line = told (command_of line) (edit_of d t line (command_of line))
