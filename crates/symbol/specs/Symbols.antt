-- The symbols of document 01: boxes and pads, turned and moved to a position, in the numbers that rows hold.
use Rattle.std.specs.Prelude.{ℕ, zero, suc, min, max, ◌≤◌, ◌<◌, Bool, ◌&&◌, List, [], ◌∷◌, ◌++◌, map, leb, ltb, ℤ, pos, neg_ℤ, ◌+ℤ◌, ◌*ℤ◌, length, take}
use Rattle.orientation.specs.declared.RotMirror.{RotMirror}
use Rattle.edge.specs.Coordinates.{coord_of, biased}
use Rattle.symbol.specs.declared.Point.{Point}
use Rattle.symbol.specs.declared.PadBlock.{PadBlock}
use Rattle.symbol.specs.declared.Bounds.{Bounds}

-- a point of a symbol, from its position
pub record Offset : Type 0 where
  pub dx : ℤ
  pub dy : ℤ

-- the point (x, y) from there
abbrev pub off : ℤ → ℤ → Offset
off x y = record { dx = x; dy = y }

-- −n
abbrev pub minus : ℕ → ℤ
minus n = neg_ℤ (pos n)

-- "Kind: 0 Power, 1 Contact, 2 Coil." A greater number is refused, so what stands here for it is never used.

-- "Pads: Power V+ (0,0); Contact C (0,−100), A (−50,100), B (50,100); Coil N (0,−100)."
abbrev pub pads_at : ℕ → List Offset
pads_at zero = off (pos 0) (pos 0) ∷ []
pads_at (suc zero) = off (pos 0) (minus 100) ∷ off (minus 50) (pos 100) ∷ off (pos 50) (pos 100) ∷ []
pads_at (suc (suc n)) = off (pos 0) (minus 100) ∷ []

-- "Boxes, low to high corner: Power (−50,−100) to (50,0); Contact (−50,−100) to (50,100); Coil (−50,−100) to (50,150)."
-- the low corner
abbrev pub low_at : ℕ → Offset
low_at k = off (minus 50) (minus 100)

-- the high corner
abbrev pub high_at : ℕ → Offset
high_at zero = off (pos 50) (pos 0)
high_at (suc zero) = off (pos 50) (pos 100)
high_at (suc (suc n)) = off (pos 50) (pos 150)

-- "(a, b, c, d) takes (x, y) to (ax+by, cx+dy)."
abbrev pub applied : RotMirror → Offset → Offset
applied o q = off (o.0 *ℤ q.dx +ℤ o.1 *ℤ q.dy) (o.2 *ℤ q.dx +ℤ o.3 *ℤ q.dy)

-- a point of a symbol at the position (x, y), both as rows hold them
abbrev pub moved_of : RotMirror → ℕ → ℕ → Offset → Point
moved_of o x y q = record { x = biased (coord_of x +ℤ (applied o q).dx); y = biased (coord_of y +ℤ (applied o q).dy) }

-- a row of zeros, which is no point
abbrev pub unused : Point
unused = record { x = 0; y = 0 }

-- "The pads of a symbol come as a block of three points with a count, unused points (0,0)." Here an unused point is a row of zeros, whose
-- coordinates would be (−6,000,−6,000); the block by coordinates, with (0,0), is `component_pads`'s.
abbrev pub block : List Point → PadBlock
block ps = record { points = take 3 (ps ++ (unused ∷ unused ∷ unused ∷ [])); count = length ps }

-- the pads of a component
abbrev pub pad_points : ℕ → RotMirror → ℕ → ℕ → List Point
pad_points kind o x y = map (moved_of o x y) (pads_at kind)

-- the same as a block
abbrev pub pad_block : ℕ → RotMirror → ℕ → ℕ → PadBlock
pad_block kind o x y = block (pad_points kind o x y)

-- the smallest box that has both points
abbrev pub box_of : Point → Point → Bounds
box_of p q = record {
  low = record { x = min p.x q.x; y = min p.y q.y };
  high = record { x = max p.x q.x; y = max p.y q.y };
}

-- the box of a component
abbrev pub bounds_at : ℕ → RotMirror → ℕ → ℕ → Bounds
bounds_at kind o x y = box_of (moved_of o x y (low_at kind)) (moved_of o x y (high_at kind))

-- "4: unknown kind, or not one of the eight orientations"; "For orientations, reply 4 is now a number outside 0 to 7" (document 02, P1)
abbrev pub known_symbol : ℕ → ℕ → Bool
known_symbol kind n = leb kind 2 && ltb n 8

-- "no two component boxes share a point, edges counted": the test whether two do
abbrev pub touches_of : Bounds → Bounds → Bool
touches_of a b = leb a.low.x b.high.x && (leb b.low.x a.high.x && (leb a.low.y b.high.y && leb b.low.y a.high.y))

-- ---- what is known of a component in a lawful drawing

-- one of the eight orientations, and a position from -5,800 to 5,800
pub record Positioned (n x y : ℕ) : Type 0 where
  pub turned : n < 8
  pub left : 200 ≤ x
  pub right : x ≤ 11800
  pub top : 200 ≤ y
  pub bottom : y ≤ 11800

-- and one of the three kinds
pub record Placeable (kind n x y : ℕ) : Type 0 where
  pub of_kind : kind ≤ 2
  pub sound : Positioned n x y
