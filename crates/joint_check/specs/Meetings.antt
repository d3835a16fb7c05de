-- Below the calls: the points of joint rows, met by wire ends and pads: what is counted at each row.
use Rattle.std.specs.Prelude.{ℕ, ◌<◌, List, ◌≢◌, ◌≡◌, length, get_or}
use Rattle.lists.specs.Lists.{◌∈◌}
use Rattle.symbol.specs.declared.Point.{Point}
use Rattle.sheet.specs.declared.Joint.{Joint}
use Rattle.sheet.specs.Joints.{joint_point, number}
use Rattle.sheet.specs.Drawings.{zero_joint}

-- each of the points ps is one of qs, and the counts tell how many are at each of qs
pub record MetBy (ps qs : List Point) (counts : List ℕ) : Type 0 where
  pub met : (p : Point) → p ∈ ps → p ∈ qs
  pub at : (k : ℕ) → k < length qs → get_or counts k 0 ≡ number (get_or qs k (joint_point zero_joint)) ps

-- each of the first n rows was met, and as often as it tells
pub record CountsAgree (rows : List Joint) (n : ℕ) (counts : List ℕ) : Type 0 where
  pub met : (k : ℕ) → k < n → get_or counts k 0 ≢ 0
  pub same : (k : ℕ) → k < n → get_or counts k 0 ≡ (get_or rows k zero_joint).count
