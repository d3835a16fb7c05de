-- Below the calls: joints found by key ("components and joints by (y, x)"): rows of joints as rising keys, and tables that hold points by
-- the numbers of their joints.
use Rattle.std.specs.Prelude.{ℕ, suc, ◌<◌, ◌≤◌, List, map, ◌≡◌, length, get_or}
use Rattle.lists.specs.Lists.{◌∈◌}
use Rattle.symbol.specs.declared.Point.{Point}
use Rattle.sheet.specs.declared.Wire.{Wire}
use Rattle.sheet.specs.declared.Joint.{Joint}
use Rattle.sheet.specs.Joints.{joint_point, Rising}
use Rattle.joints.specs.Keys.{spot}
use Rattle.nets.specs.Joined.{Links}
use Rattle.nets.specs.Joined.{Pads}
use Rattle.nets.specs.Tables.{LinksFit, PadsFit, link_rows, pad_rows}
use Rattle.net_numbers.specs.Netted.{ends_of, number_of_joint}

-- the first n keys rise
pub record Ascending (keys : List ℕ) (n : ℕ) : Type 0 where
  pub room : n ≤ 1408
  pub rise : (i j : ℕ) → i < j → j < n → get_or keys i 0 < get_or keys j 0

-- i is the place of the key, if it has one
pub record IndexOf (keys : List ℕ) (n key i : ℕ) : Type 0 where
  pub low : i < 1408
  pub only : (m : ℕ) → m < n → get_or keys m 0 ≡ key → i ≡ m

-- k is the number of the point's place, if it has one
pub record NumberAt (keys : List ℕ) (n : ℕ) (p : Point) (k : ℕ) : Type 0 where
  pub only : (m : ℕ) → m < n → spot (get_or keys m 0) ≡ p → k ≡ suc m

-- the joint rows rise, and each of the points has one
pub record Jointed (ps : List Point) (js : List Joint) : Type 0 where
  pub room : length js ≤ 1408
  pub rising : Rising js
  pub all : (p : Point) → p ∈ ps → (j : Joint) × j ∈ js × (joint_point j ≡ p)

-- the table has the wires by the numbers of the joints at their ends
pub record LinksIn (js : List Joint) (ws : List Wire) (t : Links) : Type 0 where
  pub wired : LinksFit t
  pub links_are : link_rows t ≡ map (λ l. (number_of_joint js l.0, number_of_joint js l.1)) (map ends_of ws)

-- the table has the points by the numbers of their joints
pub record PadsIn (js : List Joint) (ps : List Point) (t : Pads) : Type 0 where
  pub padded : PadsFit t
  pub pads_are : pad_rows t ≡ map (number_of_joint js) ps
