-- Files read and written: examples, above all of the order of refusals; and numbers in groups.
use mathlib.Core.Path.{◌≡◌, refl}
use mathlib.Core.Bool.{true, false}
use mathlib.Core.List.Memᴰ.{head as ∈-head}
use mathlib.Core.List.Memᴰ.{not-nil as ∈-nil}
use mathlib.Core.List.{[], ◌∷◌}
use native.Mathlib.Omega.{arith}
use lib.ListN.{replicate}
use borrow.Author.Tests.{eq-eqb, ne_eqb}
use Rattle.std.specs.List.{filter, flat_map}
use Rattle.lists.specs.Tables.{pad}
use Rattle.lists.proofs.Lists.{in_one}
use Rattle.label.specs.Labels.{label_part, padded}
use Rattle.sheet.specs.Drawings.{Sheet, empty_sheet, drawn, Sized}
use Rattle.sheet.specs.Rules.{Lawful}
use Rattle.sheet.proofs.Rules.{drawn_lawful}
use Rattle.sheet.proofs.Edits.{empty_good}
use Rattle.rules.specs.Check.{check_of, lawful}
use Rattle.rules.proofs.Check.{check_lawful}
use Rattle.groups.specs.Taken.{took, refused, then, times}
use Rattle.groups.specs.Groups.{groups_in, groups_of, later_groups, take_number, take_in}
use Rattle.saved.specs.File.{wire_bytes, label_bytes, part_bytes, file_of}
use Rattle.saved.specs.Reading.{take_wire, take_graphic, take_label, take_part, take_sheet, take_drawing, take_file, read_file}
use Rattle.saved.proofs.Rows.{WireIn}
use Rattle.saved.proofs.Sheets.{SheetIn}
use Rattle.saved.proofs.Files.{drawn_sized}

-- 0, 127, 128, 300, 16,384, and the greatest number of 32 bits
numerals : (groups_of 0 ≡ 0 ∷ []) × (groups_of 127 ≡ 127 ∷ []) × (groups_of 128 ≡ 128 ∷ 1 ∷ []) × (groups_of 300 ≡ 172 ∷ 2 ∷ [])
    × (groups_of 16384 ≡ 128 ∷ 128 ∷ 1 ∷ []) × (groups_of 4294967295 ≡ 255 ∷ 255 ∷ 255 ∷ 255 ∷ 15 ∷ [])
unfolding groups_of groups_in
numerals = (refl, refl, refl, refl, refl, refl)

-- ---- a number: the end inside it is 12; a last group of 0, and a fifth byte above 15, are 13 as soon as they are read

number_ends : (take_number [] ≡ refused 12) × (take_number (128 ∷ []) ≡ refused 12) × (take_number (255 ∷ 255 ∷ 255 ∷ 255 ∷ []) ≡ refused 12)
unfolding take_number later_groups then
number_ends = (refl, refl, refl)

number_faulty : (take_number (128 ∷ 0 ∷ []) ≡ refused 13) × (take_number (255 ∷ 255 ∷ 255 ∷ 255 ∷ 16 ∷ []) ≡ refused 13) × (take_number (128 ∷ 128 ∷ 128 ∷ 128 ∷ 128 ∷ []) ≡ refused 13)
    × (take_number (128 ∷ 128 ∷ 128 ∷ 128 ∷ 0 ∷ []) ≡ refused 13)
unfolding take_number later_groups then
number_faulty = (refl, refl, refl, refl)

number_read : (take_number (255 ∷ 255 ∷ 255 ∷ 255 ∷ 15 ∷ 7 ∷ []) ≡ took 4294967295 (7 ∷ [])) × (take_number (0 ∷ 0 ∷ []) ≡ took 0 (0 ∷ []))
unfolding take_number later_groups then
number_read = (refl, refl)

-- ---- a file

-- 513 horizontal wires: 13 although nothing follows; 512: 12; 1, and then 512 vertical ones: 13
counts : (take_sheet (129 ∷ 4 ∷ []) ≡ refused 13) × (take_sheet (128 ∷ 4 ∷ []) ≡ refused 12) × (take_sheet (1 ∷ 0 ∷ 0 ∷ 1 ∷ 128 ∷ 4 ∷ []) ≡ refused 13)
    × (take_sheet (1 ∷ 0 ∷ 0 ∷ 1 ∷ 255 ∷ 3 ∷ []) ≡ refused 12) × (take_sheet (0 ∷ 0 ∷ 129 ∷ 1 ∷ []) ≡ refused 13)
unfolding take_sheet take_in take_number later_groups then times take_wire
counts = (refl, refl, refl, refl, refl)

-- y 12,001: 13, though the two numbers behind it are missing
range : take_sheet (1 ∷ 225 ∷ 93 ∷ []) ≡ refused 13
unfolding take_sheet take_in take_number later_groups then times take_wire
range = refl

-- a label of 17 bytes; a space in it, though the byte behind is missing; one byte missing
labels : (take_label (17 ∷ []) ≡ refused 13) × (take_label (3 ∷ 75 ∷ 32 ∷ []) ≡ refused 13) × (take_label (2 ∷ 75 ∷ []) ≡ refused 12) × (take_label (2 ∷ 75 ∷ 49 ∷ 9 ∷ []) ≡ took (75 ∷ 49 ∷ []) (9 ∷ []))
unfolding take_label take_in take_number later_groups then times take_graphic
labels = (refl, refl, refl, refl)

-- ---- whole files

-- a wire at y 0 from x -50 to 50, one at x 100 from y -6,000 to -5,990, and a mirrored coil K1 at (0, 0)
small : Sheet
small = record {
  wires = record { vertical = false; line = 6000; start = 5950; end = 6050 } ∷ record { vertical = true; line = 6100; start = 0; end = 10 } ∷ [];
  parts = record { kind = 2; orientation = 4; x = 6000; y = 6000; label = 75 ∷ 49 ∷ replicate 14 0 } ∷ [];
}

small_file : file_of small
    ≡ 1 ∷ 240 ∷ 46 ∷ 190 ∷ 46 ∷ 162 ∷ 47 ∷ 1 ∷ 212 ∷ 47 ∷ 0 ∷ 10 ∷ 1 ∷ 2 ∷ 4 ∷ 240 ∷ 46 ∷ 240 ∷ 46 ∷ 2 ∷ 75 ∷ 49 ∷ []
unfolding file_of small groups_of groups_in wire_bytes part_bytes label_bytes label_part
small_file = refl

small_read : take_sheet (file_of small) ≡ took small []
unfolding file_of small groups_of groups_in wire_bytes part_bytes label_bytes label_part take_sheet take_in take_number later_groups then times take_wire take_part take_label take_graphic padded
small_read = refl

-- the empty drawing
empty_lawful : Lawful (drawn empty_sheet)
empty_lawful = drawn_lawful (record { wires = omega arith; parts = omega arith }) empty_good

empty_in : SheetIn empty_sheet
empty_in = record { wires = omega arith; parts = omega arith; order = refl; levels = λ w m. absurd (∈-nil m); uprights = λ w m. absurd (∈-nil m); each = λ c m. absurd (∈-nil m) }

empty_sized : Sized (drawn empty_sheet)
empty_sized = drawn_sized empty_sheet empty_in

empty_passes : lawful (drawn empty_sheet) ≡ true
empty_passes = eq-eqb (check_of (drawn empty_sheet)).rule 0 ((check_lawful (drawn empty_sheet) empty_sized).1 empty_lawful)

-- three zeros are the empty drawing's file; a byte more is 14
empty_file : (read_file (0 ∷ 0 ∷ 0 ∷ []) ≡ record { reply = 0; drawing = drawn empty_sheet }) × (read_file (0 ∷ 0 ∷ 0 ∷ 9 ∷ []) ≡ record { reply = 14; drawing = drawn empty_sheet })
unfolding read_file take_file take_drawing take_sheet take_in take_number later_groups then times drawn
empty_file = (rw empty_passes, rw empty_passes)

-- a wire that does not end behind its start is 13 as late as behind the last component, and before 14
flat : Sheet
flat = record { wires = record { vertical = false; line = 6000; start = 6000; end = 6000 } ∷ []; parts = [] }

flat_in : SheetIn flat
unfolding flat
flat_in = record {
  wires = omega arith;
  parts = omega arith;
  order = refl;
  levels = λ w m. in_one (WireIn false) (record { dir = refl; line = omega arith; start = omega arith; end = omega arith }) m;
  uprights = λ w m. absurd (∈-nil m);
  each = λ c m. absurd (∈-nil m);
}

no_flat : Lawful (drawn flat) → ⊥
unfolding flat drawn pad
no_flat l = let h = (l.rule1.wires_fit (record { vertical = false; line = 6000; start = 6000; end = 6000 }) (∈-head refl)).long in omega (arith, h)

flat_fails : lawful (drawn flat) ≡ false
flat_fails = ne_eqb (check_of (drawn flat)).rule 0 (λ e. no_flat ((check_lawful (drawn flat) (drawn_sized flat flat_in)).0 e))

flat_file : (read_file (1 ∷ 240 ∷ 46 ∷ 240 ∷ 46 ∷ 240 ∷ 46 ∷ 0 ∷ 0 ∷ 9 ∷ [])).reply ≡ 13
unfolding read_file take_file take_drawing take_sheet take_in take_number later_groups then times take_wire
flat_file = let f : lawful (drawn (record { wires = record { vertical = false; line = 6000; start = 6000; end = 6000 } ∷ []; parts = [] })) ≡ false = unfold flat in flat_fails in rw f
