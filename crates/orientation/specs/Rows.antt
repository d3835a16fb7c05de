-- For proofs alone: the rows (a, b) and (c, d) of the eight orientations: "(a, b, c, d) takes (x, y) to (ax+by, cx+dy)."
use Rattle.std.specs.Prelude.{ℤ, pos, negsuc}

-- one number is 0, the other 1 or -1
pub data Row : ℤ → ℤ → Type 0 where
  plus_x : Row (pos 1) (pos 0)
  minus_x : Row (negsuc 0) (pos 0)
  plus_y : Row (pos 0) (pos 1)
  minus_y : Row (pos 0) (negsuc 0)
