-- Joint rows: "each point with a wire end or pad once, with the number of both".
use Rattle.std.specs.Prelude.{ℕ, zero, suc, ◌+◌, cond, List, [], ◌∷◌}
use Rattle.lists.specs.Lists.{Rows}
use Rattle.symbol.specs.declared.Point.{Point}
use Rattle.sheet.specs.declared.Joint.{Joint}
use Rattle.sheet.specs.Points.{same, Rise, rises}

-- where a joint lies
abbrev pub joint_point : Joint → Point
joint_point j = record { x = j.x; y = j.y }

-- the joint at a point with a count
abbrev pub joint_at : Point → ℕ → Joint
joint_at p n = record { x = p.x; y = p.y; count = n }

-- one more at p
unfoldable pub bump : Point → List Joint → List Joint
bump p [] = joint_at p 1 ∷ []
bump p (j ∷ js) =
    cond (rises p (joint_point j)) (joint_at p 1 ∷ j ∷ js)
    (cond (same p (joint_point j)) (joint_at (joint_point j) (suc j.count) ∷ js)
    (j ∷ bump p js))

-- the joint rows of the points, each counted as often as it is listed
unfoldable pub joints_of : List Point → List Joint
joints_of [] = []
joints_of (p ∷ ps) = bump p (joints_of ps)

-- how often p is in the list
unfoldable pub number : Point → List Point → ℕ
number p [] = zero
number p (q ∷ qs) = cond (same p q) (suc (number p qs)) (number p qs)

-- the sum of all joint counts
unfoldable pub total : List Joint → ℕ
total [] = zero
total (j ∷ js) = j.count + total js

-- the count at p, 0 where no row has it
unfoldable pub count_at : Point → List Joint → ℕ
count_at p [] = zero
count_at p (j ∷ js) = cond (same p (joint_point j)) j.count (count_at p js)

-- joint rows strictly rise by (y, x)
abbrev pub Rising : List Joint → Type 0
Rising js = Rows (λ i j. Rise (joint_point i) (joint_point j)) js
