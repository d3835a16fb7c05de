-- Below the calls: points as keys: y times 65,536 and x, so that keys rise as points do by (y, x).
use Rattle.std.specs.Prelude.{ℕ, ◌/◌, ◌%◌, List, map, ◌≡◌, length, take}
use Rattle.symbol.specs.declared.Point.{Point}
use Rattle.sheet.specs.declared.Joint.{Joint}
use Rattle.sheet.specs.Joints.{joint_point}
use Rattle.joints.specs.Table.{Keys}
use Rattle.joints.specs.Sorting.{key_rows}

-- the point of a key
abbrev pub spot : ℕ → Point
spot k = record { x = k % 65536; y = k / 65536 }

-- the keys of the points, in their order
pub record Keyed (ps : List Point) (t : Keys) : Type 0 where
  pub size : length t.rows ≡ 1408
  pub count_is : t.count ≡ length ps
  pub points : map spot (key_rows t) ≡ ps

-- the keys of the joints, row by row
pub record KeysOf (js : List Joint) (keys : List ℕ) : Type 0 where
  pub size : length keys ≡ 1408
  pub spots : map spot (take (length js) keys) ≡ map joint_point js
