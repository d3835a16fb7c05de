-- One more point among the joint rows: they stay in order, and one more is counted at that point and nowhere else.
use Prim.Native.Nat.{ℕ, suc, ◌+◌, ◌≤◌, ◌<◌}
use mathlib.Core.Bool.{Bool, true, false, cond}
use mathlib.Core.List.Memᴰ.{head as ∈-head}
use mathlib.Core.List.Memᴰ.{tail as ∈-tail}
use mathlib.Core.List.{List, [], ◌∷◌, ◌++◌}
use mathlib.Core.Path.{◌≡◌, refl, sym, subst, ap, ◌∙◌}
use native.Mathlib.Omega.{arith}
use lib.ListN.{length}
use Rattle.lists.specs.Lists.{◌∈◌, none, more}
use Rattle.lists.proofs.Tests.{choose, Reads, pass, fail}
use Rattle.lists.proofs.Lists.{in_cons, in_one}
use Rattle.lists.proofs.Order.{rows_one}
use Rattle.symbol.specs.declared.Point.{Point}
use Rattle.sheet.specs.declared.Joint.{Joint}
use Rattle.sheet.specs.Points.{same, Rise}
use Rattle.sheet.specs.Joints.{joint_point, joint_at, bump, total, count_at, Rising}
use Rattle.sheet.proofs.Points.{same_reads, rises_reads, rise_trans, rise_asym, rise_self, rise_back}

abbrev pub Counted : List Joint → Type 0
Counted js = (j : Joint) → j ∈ js → 0 < j.count

-- one more where the two points are one
abbrev pub plus : Point → Point → ℕ → ℕ
plus q p n = cond (same q p) (suc n) n

-- the three cases of a bump: before the first row, at it, behind it
bump_cases : (P : List Joint → Type 0) (p : Point) (j : Joint) (js : List Joint)
    → (Rise p (joint_point j) → P (joint_at p 1 ∷ j ∷ js)) → (p ≡ joint_point j → P (joint_at (joint_point j) (suc j.count) ∷ js)) → (Rise (joint_point j) p → P (j ∷ bump p js)) → P (bump p (j ∷ js))
unfolding bump
bump_cases P p j js f g h = choose (rises_reads p (joint_point j)) P f (λ n. choose (same_reads p (joint_point j)) P g (λ m. h (rise_back p (joint_point j) n m)))

-- what holds of p and of every row's point holds of every row's point afterwards
bump_all : (R : Point → Type 0) (p : Point) → R p → (js : List Joint) → ((j : Joint) → j ∈ js → R (joint_point j)) → (j : Joint) → j ∈ bump p js → R (joint_point j)
unfolding bump
bump_all R p r [] h j m = in_one (λ i. R (joint_point i)) r m
bump_all R p r (k ∷ js) h j m = bump_cases (λ l. j ∈ l → R (joint_point j)) p k js
    (λ t. in_cons (λ i. R (joint_point i)) r h)
    (λ e. in_cons (λ i. R (joint_point i)) (h k (∈-head refl)) (λ i n. h i (∈-tail n)))
    (λ t. in_cons (λ i. R (joint_point i)) (h k (∈-head refl)) (bump_all R p r js (λ i n. h i (∈-tail n)))) m

pub bump_rising : (p : Point) {js : List Joint} → Rising js → Rising (bump p js)
unfolding bump
bump_rising p none = rows_one
bump_rising p (more {x = j} {xs = js} h r) = let ih = bump_rising p r in bump_cases Rising p j js
    (λ t. more (λ i m. in_cons (λ k. Rise p (joint_point k)) t (λ k n. rise_trans t (h k n)) m) (more h r))
    (λ e. more h r)
    (λ t. more (bump_all (Rise (joint_point j)) p t js h) ih)

pub bump_counted : (p : Point) (js : List Joint) → Counted js → Counted (bump p js)
unfolding bump
bump_counted p [] h = λ j m. in_one {y = joint_at p 1} (λ i. 0 < i.count) (omega arith) m
bump_counted p (k ∷ js) h = let ih = bump_counted p js (λ i n. h i (∈-tail n)) in bump_cases Counted p k js
    (λ t j m. in_cons {y = joint_at p 1} (λ i. 0 < i.count) (omega arith) h m)
    (λ e j m. in_cons {y = joint_at (joint_point k) (suc k.count)} (λ i. 0 < i.count) (omega arith) (λ i n. h i (∈-tail n)) m)
    (λ t j m. in_cons (λ i. 0 < i.count) (h k (∈-head refl)) ih m)

pub total_bump : (p : Point) (js : List Joint) → total (bump p js) ≡ suc (total js)
unfolding total bump
total_bump p [] = refl
total_bump p (j ∷ js) = let ih = total_bump p js in bump_cases (λ l. total l ≡ suc (j.count + total js)) p j js (λ t. omega arith) (λ e. omega arith) (λ t. omega arith)

pub length_bump : (p : Point) (js : List Joint) → length (bump p js) ≤ suc (length js)
unfolding bump
length_bump p [] = omega arith
length_bump p (j ∷ js) = let ih = length_bump p js in bump_cases (λ l. length l ≤ suc (suc (length js))) p j js (λ t. omega arith) (λ e. omega arith) (λ t. omega arith)

-- past the rows below p, and no further
pub bump_skip : (p : Point) (is js : List Joint) → ((i : Joint) → i ∈ is → Rise (joint_point i) p) → bump p (is ++ js) ≡ is ++ bump p js
unfolding bump
bump_skip p [] js h = refl
bump_skip p (i ∷ is) js h = let ih = bump_skip p is js (λ k m. h k (∈-tail m)) in let r = h i (∈-head refl) in bump_cases (λ l. l ≡ i ∷ (is ++ bump p js)) p i (is ++ js)
    (λ t. absurd (rise_asym r t)) (λ e. absurd (rise_self (subst (Rise (joint_point i)) e r))) (λ t. ap {B = List Joint} (λ l. i ∷ l) ih)

-- ---- the count at a point

-- below the first row nothing is counted
count_below : (p : Point) (js : List Joint) → ((j : Joint) → j ∈ js → Rise p (joint_point j)) → count_at p js ≡ 0
unfolding count_at
count_below p [] h = refl
count_below p (j ∷ js) h = let ih = count_below p js (λ i m. h i (∈-tail m)) in
    choose (same_reads p (joint_point j)) (λ n. n ≡ 0) (λ e. absurd (rise_self (subst (λ q. Rise q (joint_point j)) e (h j (∈-head refl))))) (λ n. ih)

pick_below : {P : Type 0} {b : Bool} (n : ℕ) → Reads P b → (P → n ≡ 0) → cond b 1 n ≡ cond b (suc n) n
pick_below n (pass p) z = ap suc (sym (z p))
pick_below n (fail f) z = refl

pick_behind : {P Q : Type 0} {b c : Bool} (k m n : ℕ) → Reads P b → Reads Q c → (P → Q → ⊥) → m ≡ cond c (suc n) n → cond b k m ≡ cond c (suc (cond b k n)) (cond b k n)
pick_behind k m n (pass p) (pass q) f e = absurd (f p q)
pick_behind k m n (pass p) (fail g) f e = refl
pick_behind k m n (fail g) (pass q) f e = e
pick_behind k m n (fail g) (fail g') f e = e

pick_here : (b : Bool) (k n : ℕ) → cond b (suc k) n ≡ cond b (suc (cond b k n)) (cond b k n)
pick_here true k n = refl
pick_here false k n = refl

pub count_bump : (q p : Point) {js : List Joint} → Rising js → count_at q (bump p js) ≡ plus q p (count_at q js)
unfolding count_at bump
count_bump q p none = refl
count_bump q p (more {x = j} {xs = js} h r) = let ih = count_bump q p r in bump_cases (λ l. count_at q l ≡ plus q p (count_at q (j ∷ js))) p j js
    (λ t. pick_below (count_at q (j ∷ js)) (same_reads q p) (λ u. count_below q (j ∷ js) (λ i m. subst (λ r. Rise r (joint_point i)) (sym u) (in_cons (λ k. Rise p (joint_point k)) t (λ k n. rise_trans t (h k n)) m))))
    (λ e. subst (λ r. cond (same q (joint_point j)) (suc j.count) (count_at q js) ≡ plus q r (cond (same q (joint_point j)) j.count (count_at q js))) (sym e) (pick_here (same q (joint_point j)) j.count (count_at q js)))
    (λ t. pick_behind j.count (count_at q (bump p js)) (count_at q js) (same_reads q (joint_point j)) (same_reads q p) (λ u v. rise_self (subst (λ r. Rise r p) (sym u ∙ v) t)) ih)
