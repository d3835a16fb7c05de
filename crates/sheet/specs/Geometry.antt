-- Wire geometry: points against wires, wires against wires. "Direction of a wire: a yes or no, no for horizontal"; coordinates are 6,000
-- higher than in document 01.
use Rattle.std.specs.Prelude.{ℕ, ◌≤◌, ◌<◌, Bool, true, false, ◌&&◌, cond, not, List, [], ◌∷◌, ◌++◌, ◌≡◌, eqb, ltb, leb}
use Rattle.std.specs.Bool.{beq}
use Rattle.sheet.specs.declared.Wire.{Wire}
use Rattle.symbol.specs.declared.Point.{Point}
use Rattle.std.specs.List.{flat_map}

-- a point's place along a direction
abbrev pub along : Bool → Point → ℕ
along true p = p.y
along false p = p.x

-- the line of a direction that the point lies on
abbrev pub across : Bool → Point → ℕ
across true p = p.x
across false p = p.y

-- the point of a direction, a line and a place
abbrev pub point : Bool → ℕ → ℕ → Point
point true l m = record { x = l; y = m }
point false l m = record { x = m; y = l }

-- the two ends of a wire: where it starts, and where it ends
pub data Side : Type 0 where
  low high : Side

-- the place of an end
abbrev pub at : Side → Wire → ℕ
at low w = w.start
at high w = w.end

-- the point of an end
abbrev pub tip : Side → Wire → Point
tip s w = point w.vertical w.line (at s w)

-- both ends
abbrev pub tips : Wire → List Point
tips w = tip low w ∷ tip high w ∷ []

-- all wire ends
unfoldable pub ends : List Wire → List Point
ends ws = flat_map tips ws

-- all wire ends and pads
abbrev pub marks : List Wire → List Point → List Point
marks ws ps = ends ws ++ ps

-- ---- a point and a wire

-- the wire has that end at the point
pub record Ends (s : Side) (p : Point) (w : Wire) : Type 0 where
  pub line : w.line ≡ across w.vertical p
  pub end : at s w ≡ along w.vertical p

-- the wire has an end at the point
abbrev pub EndAt : Point → Wire → Type 0
EndAt p w = (s : Side) × Ends s p w

-- "strictly inside a wire": the point lies between its ends
pub record Inside (p : Point) (w : Wire) : Type 0 where
  pub line : w.line ≡ across w.vertical p
  pub from : w.start < along w.vertical p
  pub to : along w.vertical p < w.end

-- the test for it
unfoldable pub inside : Point → Wire → Bool
inside p w = eqb w.line (across w.vertical p) && (ltb w.start (along w.vertical p) && ltb (along w.vertical p) w.end)

-- the point lies on the wire, both ends included
unfoldable pub on : Point → Wire → Bool
on p w = eqb w.line (across w.vertical p) && (leb w.start (along w.vertical p) && leb (along w.vertical p) w.end)

-- ---- two wires

-- "each wire of the same direction that meets the new one, an end touch included": w meets n
pub record Meets (n w : Wire) : Type 0 where
  pub dir : n.vertical ≡ w.vertical
  pub line : n.line ≡ w.line
  pub from : w.start ≤ n.end
  pub to : n.start ≤ w.end

-- the test for it
unfoldable pub meets : Wire → Wire → Bool
meets n w = beq n.vertical w.vertical && (eqb n.line w.line && (leb w.start n.end && leb n.start w.end))

-- b goes on in line where a ends
pub record Follows (a b : Wire) : Type 0 where
  pub dir : a.vertical ≡ b.vertical
  pub line : a.line ≡ b.line
  pub end : a.end ≡ b.start

-- a stands before b: another line, or the same line and no shared length
pub data Before (a b : Wire) : Type 0 where
  turned : a.vertical ≡ false → b.vertical ≡ true → Before a b
  next_line : a.vertical ≡ b.vertical → a.line < b.line → Before a b
  same_line : a.vertical ≡ b.vertical → a.line ≡ b.line → a.end ≤ b.start → Before a b

-- the test for it, of two wires that share no length: horizontal by (y, x1), then vertical by (x, y1)
unfoldable pub first : Wire → Wire → Bool
first a b =
    cond (beq a.vertical b.vertical)
    (cond (eqb a.line b.line) (leb a.start b.start) (ltb a.line b.line))
    (not a.vertical)
