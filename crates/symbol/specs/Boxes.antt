-- Boxes: "no two component boxes share a point, edges counted".
use Rattle.std.specs.Prelude.{◌≤◌}
use Rattle.symbol.specs.declared.Bounds.{Bounds}

-- the two boxes share a point, edges counted; `touches_of` is the test for it
pub record Shares (a b : Bounds) : Type 0 where
  pub x : a.low.x ≤ b.high.x
  pub x' : b.low.x ≤ a.high.x
  pub y : a.low.y ≤ b.high.y
  pub y' : b.low.y ≤ a.high.y
