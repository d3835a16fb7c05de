-- Runs of equal keys: in rising keys each run is one joint row, from the front.
use Prim.Native.Nat.{ℕ, zero, suc, ◌+◌, ◌≤◌, ◌<◌, ◌/◌}
use native.Mathlib.Numerals.{add-one}
use native.Mathlib.Omega.{arith}
use mathlib.Core.Bool.{cond}
use mathlib.Core.List.Memᴰ.{head as ∈-head}
use mathlib.Core.List.Memᴰ.{not-nil as ∈-nil}
use mathlib.Core.List.Memᴰ.{of_map as ∈-map}
use mathlib.Core.List.Memᴰ.{tail as ∈-tail}
use mathlib.Core.List.{List, [], ◌∷◌, map}
use mathlib.Core.Logic.{⊎_elim, ◌≢◌}
use mathlib.Core.Path.{◌≡◌, refl, sym, ap, subst, ◌∙◌}
use lib.Dec.{eqb}
use Rattle.lists.specs.Lists.{◌∈◌, Rows, more}
use Rattle.lists.proofs.Tests.{choose, decide, eqb_reads}
use Rattle.lists.proofs.Lists.{in_cons}
use Rattle.lists.proofs.Order.{rows_head, rows_tail}
use Rattle.symbol.specs.declared.Point.{Point}
use Rattle.sheet.specs.declared.Joint.{Joint}
use Rattle.sheet.specs.Points.{Rise, lower, level}
use Rattle.sheet.specs.Joints.{joint_point, joint_at, bump, joints_of}
use Rattle.sheet.proofs.JointRows.{joints_listed}
use Rattle.sheet.proofs.Points.{same_reads, rises_reads, rise_self}
use Rattle.joints.specs.Keys.{spot}

-- keys rise as their points do
spot_rises : {k l : ℕ} → k < l → Rise (spot k) (spot l)
spot_rises {k} {l} h = ⊎_elim
    (λ (e : k / 65536 ≡ l / 65536). level e (omega arith))
    (λ (n : k / 65536 ≡ l / 65536 → ⊥). lower (omega arith))
    (decide (eqb_reads (k / 65536) (l / 65536)))

-- ---- one point again and again

-- n more at p
abbrev bumps : ℕ → Point → List Joint → List Joint
bumps zero p js = js
bumps (suc n) p js = bumps n p (bump p js)

bump_here : (p : Point) (n : ℕ) (js : List Joint) → bump p (joint_at p n ∷ js) ≡ joint_at p (suc n) ∷ js
unfolding bump
bump_here p n js = choose (rises_reads p p) (λ l. l ≡ joint_at p (suc n) ∷ js) (λ r. absurd (rise_self r))
    (λ m. choose (same_reads p p) (λ l. l ≡ joint_at p (suc n) ∷ js) (λ e. refl) (λ f. absurd (f refl)))

bump_front : (p : Point) (js : List Joint) → ((j : Joint) → j ∈ js → Rise p (joint_point j)) → bump p js ≡ joint_at p 1 ∷ js
unfolding bump
bump_front p [] h = refl
bump_front p (j ∷ js) h = choose (rises_reads p (joint_point j)) (λ l. l ≡ joint_at p 1 ∷ j ∷ js) (λ r. refl) (λ n. absurd (n (h j (∈-head refl))))

bumps_here : (n : ℕ) (p : Point) (m : ℕ) (js : List Joint) → bumps n p (joint_at p m ∷ js) ≡ joint_at p (n + m) ∷ js
bumps_here zero p m js = ap (λ i. joint_at p i ∷ js) (omega arith)
bumps_here (suc n) p m js = ap (bumps n p) (bump_here p m js) ∙ bumps_here n p (suc m) js ∙ ap (λ i. joint_at p i ∷ js) (omega arith)

bumps_front : (n : ℕ) (p : Point) (js : List Joint) → ((j : Joint) → j ∈ js → Rise p (joint_point j)) → bumps (suc n) p js ≡ joint_at p (suc n) ∷ js
bumps_front n p js h = ap (bumps n p) (bump_front p js h) ∙ bumps_here n p 1 js ∙ ap (λ i. joint_at p i ∷ js) (omega arith)

-- ---- from the front

-- the rows of keys that follow n keys k
unfoldable pub rows_from : ℕ → ℕ → List ℕ → List Joint
rows_from k n [] = joint_at (spot k) n ∷ []
rows_from k n (l ∷ ls) = cond (eqb l k) (rows_from k (suc n) ls) (joint_at (spot k) n ∷ rows_from l 1 ls)

-- the joints of greater keys lie behind
behind : (k : ℕ) (ls : List ℕ) → ((l : ℕ) → l ∈ ls → k < l) → (j : Joint) → j ∈ joints_of (map spot ls) → Rise (spot k) (joint_point j)
behind k ls h j m = let t = ∈-map spot ls ((joints_listed (map spot ls)).only j m) in subst (Rise (spot k)) t.2 (spot_rises (h t.0 t.1))

rows_from_lem : (k n : ℕ) (ls : List ℕ) → Rows ◌≤◌ (k ∷ ls) → rows_from k (suc n) ls ≡ bumps (suc n) (spot k) (joints_of (map spot ls))
unfolding rows_from joints_of
rows_from_lem k n [] r = sym (bumps_front n (spot k) [] (λ j m. absurd (∈-nil m)))
rows_from_lem k n (l ∷ ls) (more h r) =
    let js : List Joint = joints_of (map spot ls) in
    choose (eqb_reads l k) (λ is. is ≡ bumps (suc n) (spot k) (bump (spot l) js))
    (λ e. rows_from_lem k (suc n) ls (more (λ m i. h m (∈-tail i)) (rows_tail r)) ∙ ap (λ m. bumps (suc n) (spot k) (bump (spot m) js)) (sym e))
    (λ d. ap {B = List Joint} (λ is. joint_at (spot k) (suc n) ∷ is) (rows_from_lem l 0 ls r)
    ∙ sym (bumps_front n (spot k) (bump (spot l) js) (behind k (l ∷ ls) (λ m i. let a = h l (∈-head refl) in in_cons (λ x. k < x) (omega arith) (λ x t. omega (arith, rows_head r x t)) i))))

-- rising keys, the first of them counted once so far
pub rows_of : (k : ℕ) (ls : List ℕ) → Rows ◌≤◌ (k ∷ ls) → rows_from k 1 ls ≡ joints_of (map spot (k ∷ ls))
unfolding joints_of
rows_of k ls r = rows_from_lem k 0 ls r

-- the same key once more, and another key
pub from_same : (k n : ℕ) {l : ℕ} (ls : List ℕ) → l ≡ k → rows_from k n (l ∷ ls) ≡ rows_from k (n + 1) ls
unfolding rows_from
from_same k n {l} ls e = rw add-one (choose (eqb_reads l k) (λ js. js ≡ rows_from k (suc n) ls) (λ t. refl) (λ d. absurd (d e)))

pub from_other : (k n l : ℕ) (ls : List ℕ) → l ≢ k → rows_from k n (l ∷ ls) ≡ joint_at (spot k) n ∷ rows_from l 1 ls
unfolding rows_from
from_other k n l ls d = choose (eqb_reads l k) (λ js. js ≡ joint_at (spot k) n ∷ rows_from l 1 ls) (λ e. absurd (d e)) (λ t. refl)
