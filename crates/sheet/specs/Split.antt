-- Splitting wires at points (document 01, "Edits", "Wire." and "Place.").
use Rattle.std.specs.Prelude.{ℕ, cond, List, [], ◌∷◌}
use Rattle.sheet.specs.declared.Wire.{Wire}
use Rattle.symbol.specs.declared.Point.{Point}
use Rattle.std.specs.List.{flat_map}
use Rattle.sheet.specs.Geometry.{along, inside}

-- the part of a wire up to a place along it
abbrev pub up_to : ℕ → Wire → Wire
up_to a w = record { vertical = w.vertical; line = w.line; start = w.start; end = a }

-- and the part from it
abbrev pub from_on : ℕ → Wire → Wire
from_on a w = record { vertical = w.vertical; line = w.line; start = a; end = w.end }

-- the part of the wire up to the point
abbrev pub left : Point → Wire → Wire
left p w = up_to (along w.vertical p) w

-- and the part from it
abbrev pub right : Point → Wire → Wire
right p w = from_on (along w.vertical p) w

-- "strictly inside": a point there splits the wire, an end of it does not
unfoldable pub split_one : Point → Wire → List Wire
split_one p w = cond (inside p w) (left p w ∷ right p w ∷ []) (w ∷ [])

-- "Each pad splits each wire that it lies strictly inside"; an end as drawn splits "each crossing wire that has that end strictly inside"
unfoldable pub split_at : Point → List Wire → List Wire
split_at p ws = flat_map (split_one p) ws

-- "Each pad splits", "At the two ends as drawn, split", "Cut the run at each joint": the points one after the other
unfoldable pub split_all : List Point → List Wire → List Wire
split_all [] ws = ws
split_all (p ∷ ps) ws = split_all ps (split_at p ws)
