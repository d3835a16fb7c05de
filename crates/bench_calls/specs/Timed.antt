-- Beside the calls: what a timing answers: a drawing is built by edits ("Edits"), and then one call is made so many times on it.
use Rattle.std.specs.Prelude.{ℕ, zero, suc, ◌+◌, ◌*◌, ◌%◌, cond, List, eqb, ltb, ℤ, pos, get_or, replicate}
use Rattle.sheet.specs.declared.Drawing.{Drawing}
use Rattle.sheet.specs.declared.Tally.{Tally}
use Rattle.sheet.specs.Drawings.{drawn, empty_sheet, lists_of}
use Rattle.rules.specs.Check.{check_of}
use Rattle.redraw.specs.declared.Edited.{Edited}
use Rattle.schematic.specs.Calls.{checked}
use Rattle.loose_pads.specs.Counting.{loose_of}
use Rattle.listing.specs.Listing.{list_of}
use Rattle.netlist.specs.Answers as netlist
use Rattle.text.specs.Answers.{buffer_of}
use Rattle.netlist.specs.Answers.{netlist_in}
use Rattle.bench_calls.specs.Numbered.{edit_of}
use Rattle.bench_calls.specs.Tables.{table_answer}
use Rattle.bench_calls.specs.Files.{file_answer}

-- ---- the drawing

-- a lent tally, n in each of its numbers
abbrev pub even_tally : ℕ → Tally
even_tally n = record { wires = n; joints = n; components = n; ends = n }

-- the drawing after an edit, or as it was
abbrev pub edited_or : Edited → Drawing → Drawing
edited_or e d = cond (eqb e.reply 0) e.drawing d

-- the drawing after the edit of a number
unfoldable pub after_edit : ℕ → ℤ → ℤ → ℤ → Drawing → Drawing
after_edit what x y z d = edited_or (edit_of what x y z d (even_tally 0)) d

-- number i of a script, 0 behind its end
abbrev pub number_at : List ℤ → ℕ → ℤ
number_at numbers i = get_or numbers i (pos 0)

-- the empty drawing after the first n edits: the number of each, and three numbers for each
unfoldable pub built_by : List ℕ → List ℤ → ℕ → Drawing
built_by whats numbers zero = drawn empty_sheet
built_by whats numbers (suc n) = after_edit (get_or whats n 0) (number_at numbers (3 * n)) (number_at numbers (3 * n + 1)) (number_at numbers (3 * n + 2)) (built_by whats numbers n)

-- ---- the calls, by number; each answers one number, and is told the one before

-- 0 on a drawing known to be lawful, 1 by the public call: the number of joints after the edit
unfoldable pub edit_answer : ℕ → ℕ → ℤ → ℤ → ℤ → Drawing → ℕ → ℕ
edit_answer call what x y z d last =
    let t = even_tally last in
    let e = edit_of what x y z d t in
    cond (eqb call 0) e.tally.joints (checked d t e).tally.joints

-- 4 of a drawing known to be lawful, 5 by the public call: a byte of the list
unfoldable pub list_answer : ℕ → Drawing → ℕ → ℕ
list_answer call d last =
    let blank : List ℕ = replicate 7936 0 in
    let i = last % 7936 in
    cond (eqb call 4) (get_or (buffer_of (list_of (lists_of d)) blank) i 0) (get_or (netlist_in d blank) i 0)

-- 6 of a drawing known to be lawful, 7 by the public call: the number of loose pads
unfoldable pub timed_loose : ℕ → Drawing → ℕ
timed_loose call d = cond (eqb call 6) (loose_of (lists_of d)) (netlist.loose_answer d).count

-- 2 is the plain check and 3 the check of public calls: the first broken rule, by either; from 8 on an operation on tables,
-- from 17 on a saved drawing
unfoldable pub timed_answer : ℕ → ℕ → ℤ → ℤ → ℤ → Drawing → ℕ → ℕ
timed_answer call what x y z d last =
    cond (ltb call 2) (edit_answer call what x y z d last)
    (cond (ltb call 4) (check_of d).rule
    (cond (ltb call 6) (list_answer call d last)
    (cond (ltb call 8) (timed_loose call d)
    (cond (ltb call 17) (table_answer call x y z d)
    (file_answer call d last)))))

-- f so many times, from the answer a on
unfoldable pub again : ℕ → (ℕ → ℕ) → ℕ → ℕ
again zero f a = a
again (suc n) f a = f (again n f a)
