-- "Each drawn coordinate is at most 1/4,096 from the exact sum, whole inputs give the whole number, and none is a negative zero."
use Rattle.std.specs.Prelude.{ℤ, Float}
use Rattle.orientation.specs.declared.RotMirror.{RotMirror}
use Rattle.float.specs.Close.{Close, ClosePosition}
use Rattle.draw.specs.declared.Vector2.{Vector2}
use Rattle.draw.specs.declared.Draw.{Draw}
use Rattle.draw.specs.declared.Draw.TheVariants.{Line, Circle}

-- p, turned by o and moved to (x, y), is drawn at r
pub record ClosePoint (o : RotMirror) (x y : ℤ) (p r : Vector2) : Type 0 where
  pub in_x : Close o.0 o.1 p.x p.y x r.x
  pub in_y : Close o.2 o.3 p.x p.y y r.y

-- a shape and what is drawn of it: each point close, radius and width the same
pub data CloseDraw (o : RotMirror) (x y : ℤ) : Draw → Draw → Type 0 where
  line : {p q p' q' : Vector2} {width : Float} → ClosePoint o x y p p' → ClosePoint o x y q q' → CloseDraw o x y (Line p q width) (Line p' q' width)
  circle : {p p' : Vector2} {radius width : Float} → ClosePoint o x y p p' → CloseDraw o x y (Circle p radius width) (Circle p' radius width)

-- the point of a wire or a joint at (x, y) is drawn at r
pub record MarkPoint (x y : ℤ) (r : Vector2) : Type 0 where
  pub in_x : ClosePosition x r.x
  pub in_y : ClosePosition y r.y

-- what is drawn of a wire from (x, y) to (v, w), or of a joint at (x, y)
pub data CloseMark (x y v w : ℤ) : Draw → Type 0 where
  stroke : {p q : Vector2} {width : Float} → MarkPoint x y p → MarkPoint v w q → CloseMark x y v w (Line p q width)
  ring : {p : Vector2} {radius width : Float} → MarkPoint x y p → CloseMark x y v w (Circle p radius width)
