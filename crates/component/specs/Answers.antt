-- The pads and the box of a component as document 01 has them, over whole numbers alone.
use Rattle.std.specs.Prelude.{ℕ, Bool, cond, eqb, List, [], ◌∷◌, ◌++◌, map, ℤ, pos, ◌+ℤ◌, length, take, Result}
use Rattle.std.specs.Int.Signed.{le_z}
use Rattle.refusal.specs.declared.Refusal.{Refusal}
use Rattle.refusal.specs.Numbers.{answered}
use Rattle.orientation.specs.declared.RotMirror.{RotMirror}
use Rattle.orientation.specs.Orientations.{eighth}
use Rattle.edge.specs.Coordinates.{coord_of, biased, ranged}
use Rattle.symbol.specs.declared.Point.{Point}
use Rattle.symbol.specs.Symbols.{Offset, applied, pads_at, low_at, high_at}
use Rattle.symbol.specs.Replies.{granted, symbol_reply}
use Rattle.component.specs.declared.Position.{Position}
use Rattle.component.specs.declared.Pads.{Pads}
use Rattle.component.specs.declared.Corners.{Corners}

-- (0,0)
abbrev pub origin : Position
origin = record { x = pos 0; y = pos 0 }

-- a point of a symbol at (x, y)
abbrev pub position_of : RotMirror → ℤ → ℤ → Offset → Position
position_of o x y q = record { x = x +ℤ (applied o q).dx; y = y +ℤ (applied o q).dy }

-- the reply to a call for pads: a number, three points and their count
pub record PadsAnswer : Type 0 where
  pub reply : ℕ
  pub points : List Position
  pub count : ℕ

-- "a block of three points with a count, unused points (0,0)"
abbrev pub answer : ℕ → List Position → PadsAnswer
answer n ps = record { reply = n; points = take 3 (ps ++ (origin ∷ origin ∷ origin ∷ [])); count = length ps }

-- each case of what a call for pads answers
abbrev pub pads_told : Result Pads Refusal → PadsAnswer
pads_told r = answered (λ p. record { reply = 0; points = p.points; count = p.count }) (λ n. answer n []) r

-- "Component position: −5,800 to 5,800." "A box, pads or a turn asked of a bad kind, orientation or position get 4 or 1, in that order,
-- and zeros for every number."
unfoldable pub component_pads_of : ℕ → ℕ → ℤ → ℤ → PadsAnswer
component_pads_of kind n x y = granted (symbol_reply kind n x y) (λ r. answer r []) (answer 0 (map (position_of (eighth n) x y) (pads_at kind)))

-- the lesser of two whole numbers
abbrev pub min_z : ℤ → ℤ → ℤ
min_z z w = cond (le_z z w) z w

-- the greater of two whole numbers
abbrev pub max_z : ℤ → ℤ → ℤ
max_z z w = cond (le_z z w) w z

-- the reply to a call for a box: a number, and its corners
pub record BoxAnswer : Type 0 where
  pub reply : ℕ
  pub low : Position
  pub high : Position

-- the smallest box that has both points
abbrev pub spanned : Position → Position → BoxAnswer
spanned p q = record { reply = 0; low = record { x = min_z p.x q.x; y = min_z p.y q.y }; high = record { x = max_z p.x q.x; y = max_z p.y q.y } }

-- the refusal n, with "zeros for every number"
abbrev pub no_box : ℕ → BoxAnswer
no_box n = record { reply = n; low = origin; high = origin }

-- each case of what a call for a box answers
abbrev pub box_told : Result Corners Refusal → BoxAnswer
box_told r = answered (λ b. record { reply = 0; low = b.low; high = b.high }) no_box r

-- the box, or 4 or 1
unfoldable pub component_box_of : ℕ → ℕ → ℤ → ℤ → BoxAnswer
component_box_of kind n x y = granted (symbol_reply kind n x y) no_box (spanned (position_of (eighth n) x y (low_at kind)) (position_of (eighth n) x y (high_at kind)))

-- ---- what the functions below the calls return

-- a component's coordinate as rows hold it, or 0, which is no position
unfoldable pub held_of : ℤ → ℕ
held_of z = cond (ranged 5800 z) (biased z) 0

-- the coordinates of a point that is used, else zeros
abbrev pub shown_of : Point → Bool → Position
shown_of p used = cond used (record { x = coord_of p.x; y = coord_of p.y }) origin

-- a reply of a symbol's call, which is 0, 4 or 1
abbrev pub granted_reply : ℕ → ℕ
granted_reply n = cond (eqb n 0) 0 (cond (eqb n 4) 4 1)
