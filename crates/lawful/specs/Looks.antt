-- Below the calls: what the fast check looks at, and what it tells.
use Rattle.std.specs.Prelude.{ℕ, ◌+◌, ◌<◌, Bool, ◌&&◌, ◌||◌, not, cond, List, [], ◌∷◌, ◌≡◌, eqb, ltb, leb, get_or}
use Rattle.std.specs.Bool.{beq}
use Rattle.lists.specs.Lists.{◌∈◌}
use Rattle.sheet.specs.declared.Wire.{Wire}
use Rattle.sheet.specs.declared.Joint.{Joint}
use Rattle.sheet.specs.Points.{same}
use Rattle.sheet.specs.Geometry.{low, high, tip, Inside, Follows}
use Rattle.sheet.specs.Joints.{joint_point}
use Rattle.sheet.specs.Drawings.{zero_joint}
use Rattle.merge.specs.Following.{goes_on}

-- wire b comes after wire a and shares no length with it
unfoldable pub before : Wire → Wire → Bool
before a b =
    (not a.vertical && b.vertical)
    || (beq a.vertical b.vertical && (ltb a.line b.line || (eqb a.line b.line && leb a.end b.start)))

-- ---- wires and joints

-- the column of a place; a place beyond the range counts as the first
unfoldable pub column_of : ℕ → ℕ
column_of x = cond (ltb x 12001) x 0

-- the row that next has for row k; n if row k is not among the n rows
unfoldable pub next_row : List ℕ → ℕ → ℕ → ℕ
next_row next n k = cond (ltb k n) (get_or next k 0) n

-- between a row and the one that next has for it, no row is of its column
pub record Chained (rows : List Joint) (count : ℕ) (next : List ℕ) : Type 0 where
  pub none : (k q : ℕ) → k < q → q < count → q < get_or next k 0 → (get_or rows k zero_joint).x ≡ (get_or rows q zero_joint).x → ⊥

-- no joint lies inside wire w, and where wire a goes on in it more than their two ends meet
pub record Clear (js : List Joint) (a w : Wire) : Type 0 where
  pub from : Joint
  pub among : from ∈ js
  pub start : joint_point from ≡ tip low w
  pub free : (j : Joint) → j ∈ js → Inside (joint_point j) w → ⊥
  pub parted : Follows a w → from.count ≡ 2 → ⊥

-- each wire of the direction is clear; a is the row before the first
pub data Run (v : Bool) (js : List Joint) : Wire → List Wire → Type 0 where
  done : {a : Wire} → Run v js a []
  more : {a w : Wire} {ws : List Wire} → (w.vertical ≡ v → Clear js a w) → Run v js w ws → Run v js a (w ∷ ws)

-- each wire of the direction is clear
pub record Runs (v : Bool) (js : List Joint) (ws : List Wire) : Type 0 where
  pub first : Wire
  pub each : Run v js first ws

-- the joints i and j are the ends of wire w, and where wire a goes on in it more than their two ends lie at i
unfoldable pub clears : Wire → Wire → Joint → Joint → Bool
clears a w i j = (same (joint_point i) (tip low w) && same (joint_point j) (tip high w)) && (not (goes_on a w) || not (eqb i.count 2))

-- ---- boxes

-- b is more than 150 above a
abbrev pub far : ℕ → ℕ → Bool
far a b = ltb (a + 150) b
