-- The joint rows are told by what is counted: rules 6 and 7 hold of them alone, and the order in which points are listed does not matter.
use Prim.Native.Nat.{ℕ, suc, ◌+◌, ◌*◌, ◌≤◌, ◌<◌}
use mathlib.Core.Bool.{Bool, true, false, cond}
use mathlib.Core.List.Memᴰ.{head as ∈-head}
use mathlib.Core.List.Memᴰ.{not-nil as ∈-nil}
use mathlib.Core.List.Memᴰ.{tail as ∈-tail}
use mathlib.Core.List.{List, [], ◌∷◌, ◌++◌, Permᴰ}
use mathlib.Core.Path.{◌≡◌, refl, sym, subst, ap, ◌∙◌}
use mathlib.Core.Logic.{⊎_elim, ◌↔◌}
use native.Mathlib.Omega.{arith}
use lib.ListN.{length}
use Rattle.lists.specs.Lists.{◌∈◌, none, more}
use Rattle.std.specs.List.{flat_map}
use Rattle.lists.proofs.Tests.{decide, choose, ltb_reads}
use Rattle.lists.proofs.Order.{rows_all, rows_ext}
use Rattle.symbol.specs.declared.Point.{Point}
use Rattle.sheet.specs.declared.Wire.{Wire}
use Rattle.sheet.specs.declared.Joint.{Joint}
use Rattle.sheet.specs.Points.{same, Rise}
use Rattle.sheet.specs.Geometry.{ends}
use Rattle.sheet.specs.Joints.{joint_point, bump, joints_of, number, total, count_at, Rising}
use Rattle.sheet.specs.Rules.{Rule6}
use Rattle.sheet.proofs.Points.{same_reads, rise_asym, rise_self}
use Rattle.sheet.proofs.Numbers.{swap_cond}
use Rattle.sheet.proofs.Bump.{Counted, plus, bump_rising, bump_counted, total_bump, length_bump, count_bump}
pub use Rattle.sheet.proofs.Numbers.{number_in, in_number, number_append, number_parts, number_perm, number_length}

-- ---- rows and counts

-- a row's count is the count at its point
pub count_in : {js : List Joint} → Rising js → (j : Joint) → j ∈ js → count_at (joint_point j) js ≡ j.count
unfolding count_at
count_in none j m = elim m [ ]
count_in (more {x = i} {xs = js} h r) j (∈-head e) =
    choose (same_reads (joint_point j) (joint_point i)) (λ n. n ≡ j.count) (λ t. ap (λ (k : Joint). k.count) (sym e)) (λ n. absurd (n (ap joint_point e)))
count_in (more {x = i} {xs = js} h r) j (∈-tail m) = let ih = count_in r j m in
    choose (same_reads (joint_point j) (joint_point i)) (λ n. n ≡ j.count) (λ t. absurd (rise_self (subst (Rise (joint_point i)) t (h j m)))) (λ n. ih)

-- where something is counted there is a row
pub in_count : (p : Point) (js : List Joint) → 0 < count_at p js → (j : Joint) × j ∈ js × (joint_point j ≡ p)
unfolding count_at
in_count p [] l = absurd (omega arith)
in_count p (i ∷ js) l = choose (same_reads p (joint_point i)) (λ n. 0 < n → (j : Joint) × j ∈ i ∷ js × (joint_point j ≡ p))
    (λ t k. (i, ∈-head refl, sym t))
    (λ n k. let r = in_count p js k in (r.0, ∈-tail r.1, r.2)) l

-- rising rows that count the same are the same
pub joints_ext : {is js : List Joint} → Rising is → Rising js → Counted is → Counted js → ((p : Point) → count_at p is ≡ count_at p js) → is ≡ js
joints_ext {is} {js} r s c d e = rows_ext (λ i j. rise_asym) r s (into r c s e) (into s d r (λ p. sym (e p)))
  where
    into : {is js : List Joint} → Rising is → Counted is → Rising js → ((p : Point) → count_at p is ≡ count_at p js) → (z : Joint) → z ∈ is → z ∈ js
    into {is} {js} r c s e z m =
        let here = count_in r z m in
        let k = in_count (joint_point z) js (omega (arith, e (joint_point z), c z m)) in
        let there : count_at (joint_point z) js ≡ k.0.count = ap (λ q. count_at q js) (sym k.2) ∙ count_in s k.0 k.1 in
        let count : k.0.count ≡ z.count = sym there ∙ sym (e (joint_point z)) ∙ here in
        subst (λ i. i ∈ js) (λ i. record { x = (k.2 i).x; y = (k.2 i).y; count = count i }) k.1

-- ---- rules 6 and 7

pub joints_rising : (ps : List Point) → Rising (joints_of ps)
unfolding joints_of
joints_rising [] = none
joints_rising (p ∷ ps) = bump_rising p (joints_rising ps)

pub joints_counted : (ps : List Point) → Counted (joints_of ps)
unfolding joints_of
joints_counted [] = λ j m. absurd (∈-nil m)
joints_counted (p ∷ ps) = bump_counted p (joints_of ps) (joints_counted ps)

pub count_joints : (q : Point) (ps : List Point) → count_at q (joints_of ps) ≡ number q ps
unfolding joints_of number count_at
count_joints q [] = refl
count_joints q (p ∷ ps) = count_bump q p (joints_rising ps) ∙ ap (plus q p) (count_joints q ps)

pub joints_listed : (ps : List Point) → Rule6 (joints_of ps) ps
joints_listed ps = record {
  once = rows_all (joints_rising ps) (λ i j m n r e. rise_self (subst (λ q. Rise q (joint_point j)) e r));
  all = λ p m. in_count p (joints_of ps) (omega (arith, count_joints p ps, in_number m));
  only = λ j m. number_in (joint_point j) ps (omega (arith, count_joints (joint_point j) ps, count_in (joints_rising ps) j m, joints_counted ps j m));
  right = λ j m. sym (count_in (joints_rising ps) j m) ∙ count_joints (joint_point j) ps;
}

-- rows that list the points and rise are the joint rows
pub listed_same : {js : List Joint} {ps : List Point} → Rising js → Rule6 js ps → js ≡ joints_of ps
listed_same {js} {ps} o l = joints_ext o (joints_rising ps) (λ j m. omega (arith, l.right j m, in_number (l.only j m))) (joints_counted ps) (λ p. counts p ∙ sym (count_joints p ps))
  where
    counts : (p : Point) → count_at p js ≡ number p ps
    counts p = ⊎_elim
        (λ (a : 0 < number p ps). let k = l.all p (number_in p ps a) in subst (λ q. count_at q js ≡ number q ps) k.2 (count_in o k.0 k.1 ∙ l.right k.0 k.1))
        (λ (a : 0 < number p ps → ⊥). ⊎_elim
        (λ (b : 0 < count_at p js). let k = in_count p js b in absurd (a (in_number (subst (λ q. q ∈ ps) k.2 (l.only k.0 k.1)))))
        (λ (b : 0 < count_at p js → ⊥). omega arith)
        (decide (ltb_reads 0 (count_at p js))))
        (decide (ltb_reads 0 (number p ps)))

-- rules 6 and 7 hold of these rows alone
pub rules_6_7 : (js : List Joint) (ps : List Point) → (Rising js × Rule6 js ps) ↔ (js ≡ joints_of ps)
rules_6_7 js ps = (λ r. listed_same r.0 r.1, λ e. subst (λ l. Rising l × Rule6 l ps) (sym e) (joints_rising ps, joints_listed ps))

-- ---- the order of the points does not matter

-- points that are listed as often give the same rows
pub joints_same : (ps qs : List Point) → ((p : Point) → number p ps ≡ number p qs) → joints_of ps ≡ joints_of qs
joints_same ps qs e = joints_ext (joints_rising ps) (joints_rising qs) (joints_counted ps) (joints_counted qs) (λ p. count_joints p ps ∙ e p ∙ sym (count_joints p qs))

pub joints_perm : {ps qs : List Point} → Permᴰ ps qs → joints_of ps ≡ joints_of qs
joints_perm {ps} {qs} d = joints_same ps qs (λ p. number_perm p d)

-- one more point at the end, for a loop over the points from the front
pub joints_next : (p : Point) (ps : List Point) → bump p (joints_of ps) ≡ joints_of (ps ++ (p ∷ []))
unfolding joints_of number
joints_next p ps = joints_same (p ∷ ps) (ps ++ (p ∷ [])) (λ q. plus_end (same q p) (number q (ps ++ (p ∷ []))) (number q ps) (number_append q ps (p ∷ [])))
  where
    plus_end : (b : Bool) (m n : ℕ) → m ≡ n + cond b 1 0 → cond b (suc n) n ≡ m
    plus_end true m n e = omega arith
    plus_end false m n e = omega arith

pub bump_swap : (p q : Point) {js : List Joint} → Rising js → Counted js → bump p (bump q js) ≡ bump q (bump p js)
bump_swap p q {js} r c = joints_ext (bump_rising p (bump_rising q r)) (bump_rising q (bump_rising p r)) (bump_counted p (bump q js) (bump_counted q js c)) (bump_counted q (bump p js) (bump_counted p js c))
    (λ s. count_bump s p (bump_rising q r) ∙ ap (plus s p) (count_bump s q r) ∙ swap_cond (same s p) (same s q) (count_at s js) ∙ sym (count_bump s q (bump_rising p r) ∙ ap (plus s q) (count_bump s p r)))

-- ---- how many, in all

pub total_joints : (ps : List Point) → total (joints_of ps) ≡ length ps
unfolding joints_of total
total_joints [] = refl
total_joints (p ∷ ps) = total_bump p (joints_of ps) ∙ ap suc (total_joints ps)

-- no more rows than wire ends and pads
pub length_joints : (ps : List Point) → length (joints_of ps) ≤ length ps
unfolding joints_of
length_joints [] = omega arith
length_joints (p ∷ ps) = omega (arith, length_bump p (joints_of ps), length_joints ps)

pub length_ends : (ws : List Wire) → length (ends ws) ≡ 2 * length ws
unfolding ends
length_ends [] = refl
length_ends (w ∷ ws) = let ih = length_ends ws in omega arith
