-- Below the calls: tables: what one holds, and one row more.
use Rattle.std.specs.Prelude.{ℕ, ◌+◌, ◌≡◌, List, ◌++◌, length, take, set}
use Rattle.lists.specs.Tables.{pad, Holds}
use Rattle.table.specs.declared.Table.{Table}

module _ {A : Type 0} {n : ℕ} where
  -- the rows in use
  abbrev pub rows_of : Table A n → List A
  rows_of t = take t.count t.rows

  -- one row more
  abbrev pub pushed : A → Table A n → Table A n
  pushed x t = record { rows = set t.rows t.count x; count = t.count + 1 }

-- r is t with the rows behind those in use, whatever list t holds
pub record Extends {A : Type 0} {n : ℕ} (rows : List A) (t r : Table A n) : Type 0 where
  pub so : (z : A) (xs : List A) → Holds n z xs t.rows t.count → Holds n z (xs ++ rows) r.rows r.count
  pub count_is : r.count ≡ t.count + length rows

-- the table of a list, with z behind it up to n rows
abbrev pub table_of : {A : Type 0} (n : ℕ) → A → List A → Table A n
table_of n z xs = record { rows = pad n z xs; count = length xs }
