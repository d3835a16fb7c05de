-- Net numbers, computed: a number for the net of each point, and then "each net not met before gets the next number from 1".
use Rattle.std.specs.Prelude.{cond, List, [], ◌∷◌, map, ℕ, suc, ◌-◌, min, max, eqb, length}
use Rattle.std.specs.List.{list_any}
use Rattle.nets.specs.Nets.{Net}

module _ {P : Type 0} where
  -- a wire from u to v makes one net of two: it has the smaller of their numbers
  unfoldable pub merged : (P → ℕ) → P → P → P → ℕ
  merged f u v p = cond (eqb (f p) (max (f u) (f v))) (min (f u) (f v)) (f p)

  -- the net of a point after all the wires
  unfoldable pub net_from : (P → ℕ) → List (P × P) → P → ℕ
  net_from f [] p = f p
  net_from f (l ∷ ls) p = net_from (merged f l.0 l.1) ls p

-- before any wire a joint is on a net of its own number, and one with a power pad on net 0
unfoldable pub first_net : List ℕ → ℕ → ℕ
first_net powers n = cond (list_any (eqb n) powers) 0 n

-- the net of a joint
unfoldable pub net_of : Net ℕ → ℕ → ℕ
net_of net n = net_from (first_net net.powers) net.links n

-- a net of points by the numbers of their joints
abbrev pub by_number : {P : Type 0} → (P → ℕ) → Net P → Net ℕ
by_number number net = record { links = map (λ l. (number l.0, number l.1)) net.links; powers = map number net.powers }

-- how many nets were met up to x, where the nets met stand with the last one first; 0 where x was not met
unfoldable pub rank : ℕ → List ℕ → ℕ
rank x [] = 0
rank x (y ∷ met) = cond (eqb x y) (suc (length met)) (rank x met)

-- x among the nets met: "each net not met before" is met now
unfoldable pub meet : ℕ → List ℕ → List ℕ
meet x met = cond (eqb (rank x met) 0) (x ∷ met) met

-- the numbers of a row of nets: a net's number is how many were met before it
unfoldable pub number_from : List ℕ → List ℕ → List ℕ
number_from met [] = []
number_from met (x ∷ xs) = (rank x (meet x met) - 1) ∷ number_from (meet x met) xs

-- net 0, that of the fed pads, counts as met before all
unfoldable pub numbering : List ℕ → List ℕ
numbering xs = number_from (0 ∷ []) xs

-- the net numbers of a row of pads, each given by its joint
unfoldable pub numbers_of : Net ℕ → List ℕ → List ℕ
numbers_of net pads = numbering (map (net_of net) pads)
