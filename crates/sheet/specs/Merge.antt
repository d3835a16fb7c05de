-- Merging (document 01, "Edits", "Delete."): "A point that falls from 3 or more to exactly two wire ends in line, without a pad, becomes
-- one wire. A corner does not."
use Rattle.std.specs.Prelude.{Bool, ◌&&◌, ◌||◌, cond, not, List, [], ◌∷◌, eqb}
use Rattle.std.specs.Bool.{beq}
use Rattle.sheet.specs.declared.Wire.{Wire}
use Rattle.symbol.specs.declared.Point.{Point}
use Rattle.std.specs.List.{list_any}
use Rattle.sheet.specs.Points.{same}
use Rattle.sheet.specs.Geometry.{tip, low, high}

-- the test for `HeldApart`: the point has more than "exactly two wire ends in line, without a pad", namely an end of the other direction
-- or a pad
unfoldable pub held_apart : List Wire → List Point → Bool → Point → Bool
held_apart ws ps d p = list_any (λ w. beq w.vertical (not d) && (same p (tip low w) || same p (tip high w))) ws || list_any (same p) ps

-- "two wire ends in line": b goes on in line where a ends, and h does not hold them apart; "A corner does not"
unfoldable pub joins : (Bool → Point → Bool) → Wire → Wire → Bool
joins h a b = beq a.vertical b.vertical && (eqb a.line b.line && (eqb a.end b.start && not (h a.vertical (tip high a))))

-- "becomes one wire": from a's start to b's end
abbrev pub join : Wire → Wire → Wire
join a b = record { vertical = a.vertical; line = a.line; start = a.start; end = b.end }

-- a joined to the first of the rows behind it, if the two join
unfoldable pub glue : (Bool → Point → Bool) → Wire → List Wire → List Wire
glue h a [] = a ∷ []
glue h a (b ∷ bs) = cond (joins h a b) (join a b ∷ bs) (a ∷ b ∷ bs)

-- all wires joined that h does not hold apart
unfoldable pub merge_by : (Bool → Point → Bool) → List Wire → List Wire
merge_by h [] = []
merge_by h (w ∷ ws) = glue h w (merge_by h ws)

-- "exactly two wire ends in line, without a pad, becomes one wire": all wires joined that no crossing end and no pad holds apart. The
-- wires of a lawful drawing stay as they are (proofs/Merge: merge-same), so that a delete far away joins nothing; and where what is kept
-- of them joins, the point falls "from 3 or more" (proofs/MergeCount: fell).
unfoldable pub merge : List Wire → List Point → List Wire
merge ws ps = merge_by (held_apart ws ps) ws
