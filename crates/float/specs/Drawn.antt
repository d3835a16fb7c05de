-- A drawn coordinate as `Draw::transform` computes it, in single precision (IEEE 754's binary32).
use Rattle.std.specs.Prelude.{ℤ, Float}
use Rattle.std.specs.Float.{binary32}
use Rattle.std.specs.Float.Ieee.{mul, add, of_int}

-- "Each coordinate is a·x + b·y, then + the position, each operation rounded"
abbrev pub turned : ℤ → ℤ → Float → Float → Float
turned a b x y = add binary32 (mul binary32 (of_int binary32 a) x) (mul binary32 (of_int binary32 b) y)
