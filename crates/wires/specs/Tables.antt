-- Below the calls: tables of wires and of points, and what it means that one holds a list or has no room for it ("would hold over 512
-- wires").
use Rattle.std.specs.Prelude.{◌<◌, ◌≤◌, List, Result, MatchResult, IfOk, length, take}
use Rattle.lists.specs.Tables.{Holds}
use Rattle.symbol.specs.declared.Point.{Point}
use Rattle.table.specs.declared.NoRoom.{NoRoom}
use Rattle.sheet.specs.declared.Wire.{Wire}
use Rattle.sheet.specs.Tables.{Wires}
use Rattle.sheet.specs.Split.{split_all}
use Rattle.sheet.specs.Drawings.{zero_wire}
use Rattle.wires.specs.Points.{Points}

-- the points in use
abbrev pub point_rows : Points → List Point
point_rows t = take t.count t.rows

-- the table holds the list, and zero rows behind it
abbrev pub Tabled : List Wire → Wires → Type 0
Tabled ws t = Holds 512 zero_wire ws t.rows t.count

-- the table of the list if it has room, or the word that it has not
abbrev pub Grows : List Wire → Result Wires NoRoom → Type 0
Grows ws g = MatchResult g (λ t. Tabled ws t) (λ _. 512 < length ws)

-- r is the table t split at each of the points: whatever list t holds; where t has no more than 512 rows in use, whatever stands behind
-- them, r has no more
pub record Splits (ps : List Point) (t : Wires) (r : Result Wires NoRoom) : Type 0 where
  pub room : t.count ≤ 512 → IfOk r (λ u. u.count ≤ 512)
  pub so : (ws : List Wire) → Tabled ws t → Grows (split_all ps ws) r
