-- A shape, turned by an orientation and moved to a position.
use Rattle.std.specs.Prelude.{ℤ}
use Rattle.std.specs.Float.{binary32}
use Rattle.std.specs.Float.Ieee.{add, of_int}
use Rattle.orientation.specs.declared.RotMirror.{RotMirror}
use Rattle.float.specs.Drawn.{turned}
use Rattle.draw.specs.Symbols.{vector}
use Rattle.draw.specs.declared.Vector2.{Vector2}
use Rattle.draw.specs.declared.Draw.{Draw}
use Rattle.draw.specs.declared.Draw.TheVariants.{Line, Circle}

-- a position in floats, as `nalgebra::convert` makes it
abbrev pub float_position : ℤ → ℤ → Vector2
float_position x y = vector (of_int binary32 x) (of_int binary32 y)

-- "(a, b, c, d) takes (x, y) to (ax+by, cx+dy)." "Each coordinate is a·x + b·y, then + the position, each operation rounded, as in
-- `Draw::transform`."
abbrev pub moved_point : RotMirror → Vector2 → Vector2 → Vector2
moved_point o t p = vector (add binary32 (turned o.0 o.1 p.x p.y) t.x) (add binary32 (turned o.2 o.3 p.x p.y) t.y)

-- "Radius and width don't change."
abbrev pub transform_of : RotMirror → Vector2 → Draw → Draw
transform_of o t (Line p q width) = Line (moved_point o t p) (moved_point o t q) width
transform_of o t (Circle p radius width) = Circle (moved_point o t p) radius width
