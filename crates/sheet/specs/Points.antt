-- Points: which are one, and their row order, "by (y, x)".
use Rattle.std.specs.Prelude.{◌<◌, Bool, ◌&&◌, ◌||◌, ◌≡◌, eqb, ltb}
use Rattle.symbol.specs.declared.Point.{Point}

-- the two points are one
unfoldable pub same : Point → Point → Bool
same p q = eqb p.x q.x && eqb p.y q.y

-- q comes after p by (y, x)
pub data Rise (p q : Point) : Type 0 where
  lower : p.y < q.y → Rise p q
  level : p.y ≡ q.y → p.x < q.x → Rise p q

-- the test for it
unfoldable pub rises : Point → Point → Bool
rises p q = ltb p.y q.y || (eqb p.y q.y && ltb p.x q.x)
