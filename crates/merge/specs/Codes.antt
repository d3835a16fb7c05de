-- Below the calls: wire ends and pads as numbers: whether a point holds "exactly two wire ends in line, without a pad" is then whether a
-- number is among others.
use Rattle.std.specs.Prelude.{ℕ, ◌+◌, ◌*◌, ◌≤◌, ◌<◌, ◌≡◌, List, [], ◌∷◌, ◌++◌, map, Bool, true, false, length, take, get_or}
use Rattle.symbol.specs.declared.Point.{Point}
use Rattle.lists.specs.Lists.{◌∈◌}
use Rattle.std.specs.List.{flat_map}
use Rattle.sheet.specs.declared.Wire.{Wire}
use Rattle.sheet.specs.Geometry.{low, high, tip}
use Rattle.sheet.specs.Merge.{held_apart}
use Rattle.merge.specs.Numbers.{Numbers}

-- the end of a horizontal wire is a mark of kind 0, that of a vertical one of kind 1, a pad of kind 2
pub record Mark : Type 0 where
  pub kind : ℕ
  pub point : Point

-- the kind of an end of a wire of that direction
abbrev pub kind_of : Bool → ℕ
kind_of false = 0
kind_of true = 1

-- a mark of kind k at p
abbrev pub mark : ℕ → Point → Mark
mark k p = record { kind = k; point = p }

-- both ends of a wire
abbrev pub end_marks : Wire → List Mark
end_marks w = mark (kind_of w.vertical) (tip low w) ∷ mark (kind_of w.vertical) (tip high w) ∷ []

-- all wire ends and pads
unfoldable pub marks_with_kind : List Wire → List Point → List Mark
marks_with_kind ws ps = flat_map end_marks ws ++ map (mark 2) ps

-- a mark as one number, for points of which both numbers are below 65,536
unfoldable pub code_of : Mark → ℕ
code_of m = m.point.x + 65536 * m.point.y + 4294967296 * m.kind

-- the point of a mark that has such a number
pub record Codable (m : Mark) : Type 0 where
  pub x : m.point.x ≤ 65535
  pub y : m.point.y ≤ 65535

-- the numbers are those of the marks
pub record Coded (ms : List Mark) (cs : List ℕ) : Type 0 where
  pub are : cs ≡ map code_of ms
  pub small : (m : Mark) → m ∈ ms → Codable m

-- the numbers of a table in use
abbrev pub number_rows : Numbers → List ℕ
number_rows t = take t.count t.rows

-- each flag tells whether the wire of its row is held at its high end
pub record Flagged (ws : List Wire) (ps : List Point) (flags : List Bool) : Type 0 where
  pub each : (i : ℕ) (d : Wire) → i < length ws → get_or flags i false ≡ held_apart ws ps (get_or ws i d).vertical (tip high (get_or ws i d))
