-- Below the calls: the tables of the code: wires and pads by the numbers of their joints, and the aliases of net numbers: "following
-- aliases from a net to the smallest number".
use Rattle.std.specs.Prelude.{◌≡◌, List, [], ◌∷◌, ◌++◌, map, ℕ, zero, suc, ◌<◌, ◌≤◌, min, max, length, get_or, set, take}
use Rattle.lists.specs.Lists.{◌∈◌}
use Rattle.nets.specs.declared.Link.{Link}
use Rattle.nets.specs.Joined.{Links}
use Rattle.nets.specs.Joined.{Pads}
use Rattle.nets.specs.Nets.{Net}
use Rattle.nets.specs.Numbers.{net_of, rank}

-- a joint's number: its row, counted from 1
pub record JointNumber (n : ℕ) : Type 0 where
  pub low : 0 < n
  pub high : n < 1409

-- each pad is at a joint
abbrev pub EachJoint : List ℕ → Type 0
EachJoint ps = (n : ℕ) → n ∈ ps → JointNumber n

-- each wire end is a joint
abbrev pub EachEnd : List (ℕ × ℕ) → Type 0
EachEnd ls = (l : ℕ × ℕ) → l ∈ ls → JointNumber l.0 × JointNumber l.1

-- a wire by the numbers of its two joints
abbrev pub link_ends : Link → ℕ × ℕ
link_ends l = (l.from, l.to)

-- the wires of a table, by the joints at their ends
unfoldable pub link_rows : Links → List (ℕ × ℕ)
link_rows t = map link_ends (take t.count t.rows)

-- the pads of a table, by their joints
unfoldable pub pad_rows : Pads → List ℕ
pad_rows t = take t.count t.rows

-- what joins the joints: the wires of one table, the power pads of the other
abbrev pub net_in : Links → Pads → Net ℕ
net_in wires powers = record { links = link_rows wires; powers = pad_rows powers }

-- the table is not overfull, and each wire end is a joint
pub record LinksFit (t : Links) : Type 0 where
  pub room : t.count ≤ 512
  pub ends : EachEnd (link_rows t)

-- the table is not overfull, and each pad is at a joint
pub record PadsFit (t : Pads) : Type 0 where
  pub room : t.count ≤ 384
  pub joints : EachJoint (pad_rows t)

-- f of 0, 1, .. below n
unfoldable pub tabulate : (ℕ → ℕ) → ℕ → List ℕ
tabulate f zero = []
tabulate f (suc n) = tabulate f n ++ (f n ∷ [])

-- aliases: no entry is above its place
pub record Falling (alias : List ℕ) : Type 0 where
  pub low : (n : ℕ) → get_or alias n 0 ≤ n

-- k aliases on from n
unfoldable pub follow : ℕ → List ℕ → ℕ → ℕ
follow zero alias n = n
follow (suc k) alias n = follow k alias (get_or alias n 0)

-- the smallest number that the aliases lead to from n: the number falls until it stands still, so n steps are enough
unfoldable pub root_of : List ℕ → ℕ → ℕ
root_of alias n = follow n alias n

-- the aliases after a wire from u to v: the larger of the two roots gets the smaller one as its alias
unfoldable pub join_of : List ℕ → ℕ → ℕ → List ℕ
join_of alias u v = set alias (max (root_of alias u) (root_of alias v)) (min (root_of alias u) (root_of alias v))

-- the aliases that a net's wires and power pads lead to: the root of a joint is its net
pub record Rooted (net : Net ℕ) (alias : List ℕ) : Type 0 where
  pub long : length alias ≡ 1409
  pub falls : Falling alias
  pub roots : (n : ℕ) → n < 1409 → root_of alias n ≡ net_of net n

-- the ranks of the nets met, with their count
pub record Ranked (met : List ℕ) (count : ℕ) (given : List ℕ) : Type 0 where
  pub long : length given ≡ 1409
  pub all : count ≡ length met
  pub ranks : (x : ℕ) → x < 1409 → get_or given x 0 ≡ rank x met
