-- What is printed of a file: "`A <reply>`, and for 0 all rows as panel_rows prints them (`T`, `W`, `J`, `C` lines), then the wiring list and
-- `E <loose>`, as `n` prints them".
use Rattle.std.specs.Prelude.{◌≡◌, cond, List, [], ◌++◌, ℕ, ◌≤◌, eqb, length, take}
use Rattle.sheet.specs.declared.Drawing.{Drawing}
use Rattle.sheet.specs.Drawings.{lists_of, tally_of}
use Rattle.dump.specs.Rows.{row_lines}
use Rattle.loose_pads.specs.Counting.{loose_of}
use Rattle.listing.specs.Listing.{list_of}
use Rattle.telling.specs.Told.{answered, loose_line}
use Rattle.saved.specs.Reading.{read_file}

-- the rows, the list, and how many pads are loose
unfoldable pub drawing_shown : Drawing → List ℕ
drawing_shown d = row_lines (tally_of (lists_of d)) d ++ (list_of (lists_of d) ++ loose_line (loose_of (lists_of d)))

-- the reply; "for 0" the drawing
unfoldable pub shown_of : List ℕ → List ℕ
shown_of s = answered (read_file s).reply ++ cond (eqb (read_file s).reply 0) (drawing_shown (read_file s).drawing) []

-- the bytes bs stand behind the first `at` of a buffer: now there are r, and so they are in new
pub record Shows (old : List ℕ) (at : ℕ) (bs new : List ℕ) (r : ℕ) : Type 0 where
  pub bytes : take r new ≡ take at old ++ bs
  pub fits : r ≤ length new
