-- "One lawful drawing has one file, and reading what was written gives it back; whatever is read and accepted writes the same bytes": of what
-- the calls answer. `saved_of` and `saved_in` are what `save` answers and leaves in the lent buffer, `read_file` what `open` answers,
-- `read_front` what `read_drawing` answers.
use Rattle.std.specs.Prelude.{ℕ, ◌+◌, ◌≤◌, ◌<◌, ◌≡◌, List, ◌++◌, length, take, drop}
use Rattle.sheet.specs.declared.Drawing.{Drawing}
use Rattle.sheet.specs.Drawings.{Sized, empty_sheet, lists_of, drawn}
use Rattle.sheet.specs.Rules.{Lawful}
use Rattle.text.specs.Answers.{told_length}
use Rattle.groups.specs.Groups.{Bytes}
use Rattle.saved.specs.Answers.{saved_of, saved_in}
use Rattle.saved.specs.File.{file_of}
use Rattle.saved.specs.Reading.{read_file, read_front}

-- what saving wrote
abbrev pub written : Drawing → List ℕ → List ℕ
written d old = take (saved_of d (length old)).length (saved_in d old)

-- reading what was written gives it back
abbrev pub Back : Type 0
Back = (d : Drawing) (old : List ℕ) → Sized d → (saved_of d (length old)).reply ≡ 0 → read_file (written d old) ≡ record { reply = 0; drawing = d }

-- whatever is read and accepted is lawful and writes the same bytes
pub record SameBytes (s old : List ℕ) : Type 0 where
  pub lawful : Lawful (read_file s).drawing
  pub told : saved_of (read_file s).drawing (length old) ≡ told_length 0 (length s)
  pub bytes : saved_in (read_file s).drawing old ≡ s ++ drop (length s) old

abbrev pub Same : Type 0
Same = (s old : List ℕ) → Bytes s → (read_file s).reply ≡ 0 → length s ≤ length old → SameBytes s old

-- one lawful drawing has one file: two files that are read as one drawing are one
abbrev pub One : Type 0
One = (s t : List ℕ) → Bytes s → Bytes t → (read_file s).reply ≡ 0 → (read_file t).reply ≡ 0 → (read_file s).drawing ≡ (read_file t).drawing → s ≡ t

-- 6,022 bytes always suffice
abbrev pub Room : Type 0
Room = (d : Drawing) (room : ℕ) → Sized d → Lawful d → 6022 ≤ room → (saved_of d room).reply ≡ 0

-- "12, the file ends with a byte still due": what was written, cut short anywhere
abbrev pub Cut : Type 0
Cut = (d : Drawing) (old : List ℕ) → Sized d → (saved_of d (length old)).reply ≡ 0
    → (k : ℕ) → k < length (written d old) → read_file (take k (written d old)) ≡ record { reply = 12; drawing = drawn empty_sheet }

-- one behind the other: a drawing's file among other bytes is read from where it begins, and its end is told
abbrev pub Among : Type 0
Among = (d : Drawing) (before behind : List ℕ) → Sized d → Lawful d
    → read_front (before ++ (file_of (lists_of d) ++ behind)) (length before) ≡ record { reply = 0; next = length before + length (file_of (lists_of d)); drawing = d }

-- the request
pub record Request5 : Type 0 where
  pub back : Back
  pub same : Same
  pub one : One
  pub room : Room
  pub cut : Cut
  pub among : Among
