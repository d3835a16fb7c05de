-- Below the calls: what its functions ask and return: "an array of point structs by value, mapped through orientation and position". The
-- code's table of pads holds each number of a symbol as 200 more, so that none is negative.
use Rattle.std.specs.Prelude.{ℕ, zero, suc, ◌+◌, ◌-◌, ◌≤◌, Bool, cond, List, [], ◌∷◌, get_or}
use Rattle.std.proofs.Math.IntN.{sub_ℕ}
use Rattle.symbol.specs.Symbols.{Offset, off, unused, Positioned}
use Rattle.symbol.specs.declared.Point.{Point}
use Rattle.symbol.specs.declared.Bounds.{Bounds}

-- a point of the table, as an offset
abbrev pub offset_of : Point → Offset
offset_of q = off (sub_ℕ q.x 200) (sub_ℕ q.y 200)

-- d, a stored number, on from p or back from it
abbrev pub along_of : Bool → ℕ → ℕ → ℕ
along_of back d p = cond back (p + 200 - d) (p + d - 200)

-- f of the first n
abbrev pub map_first : (Point → Point) → ℕ → List Point → List Point
map_first f zero ps = ps
map_first f (suc n) [] = []
map_first f (suc n) (p ∷ ps) = f p ∷ map_first f n ps

-- a stored point is at most 200 from the position
pub record Near (q : Point) : Type 0 where
  pub in_x : q.x ≤ 400
  pub in_y : q.y ≤ 400

-- what mapping asks: at most three points, one of the eight and a position, and stored points
pub record Mapping (points : List Point) (count n x y : ℕ) : Type 0 where
  pub few : count ≤ 3
  pub sound : Positioned n x y
  pub near : (k : ℕ) → Near (get_or points k unused)

-- the box that reaches so far to each side of (x, y)
abbrev pub reaching_of : ℕ → ℕ → ℕ → ℕ → ℕ → ℕ → Bounds
reaching_of x y left up right down = record { low = record { x = x - left; y = y - up }; high = record { x = x + right; y = y + down } }

-- what such a box asks: a position, and no side farther off than 150
pub record Reaching (x y left up right down : ℕ) : Type 0 where
  pub from_x : (200 ≤ x) × (x ≤ 11800)
  pub from_y : (200 ≤ y) × (y ≤ 11800)
  pub low : (left ≤ 150) × (up ≤ 150)
  pub high : (right ≤ 150) × (down ≤ 150)
