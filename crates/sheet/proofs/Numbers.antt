-- How often a point is listed.
use Prim.Native.Nat.{ℕ, suc, ◌+◌, ◌≤◌, ◌<◌}
use mathlib.Core.Bool.{Bool, true, false, cond, not}
use mathlib.Core.List.Memᴰ.{head as ∈-head}
use mathlib.Core.List.Memᴰ.{tail as ∈-tail}
use mathlib.Core.List.{List, [], ◌∷◌, ◌++◌, Permᴰ}
use mathlib.Core.Path.{◌≡◌, refl, ◌∙◌}
use native.Mathlib.Omega.{arith}
use lib.ListN.{length}
use Rattle.lists.specs.Lists.{◌∈◌}
use Rattle.std.specs.List.{filter, flat_map}
use Rattle.lists.proofs.Tests.{choose}
use Rattle.symbol.specs.declared.Point.{Point}
use Rattle.sheet.specs.Points.{same}
use Rattle.sheet.specs.Joints.{number}
use Rattle.sheet.proofs.Points.{same_reads}

pub number_in : (p : Point) (ps : List Point) → 0 < number p ps → p ∈ ps
unfolding number
number_in p [] l = absurd (omega arith)
number_in p (q ∷ qs) l = choose (same_reads p q) (λ n. 0 < n → p ∈ q ∷ qs) (λ t k. ∈-head t) (λ n k. ∈-tail (number_in p qs k)) l

pub in_number : {p : Point} {ps : List Point} → p ∈ ps → 0 < number p ps
unfolding number
in_number {p} (∈-head {x = q} {xs = qs} e) = choose (same_reads p q) (λ n. 0 < n) (λ t. omega arith) (λ n. absurd (n e))
in_number {p} (∈-tail {x = q} {xs = qs} m) = let ih = in_number m in choose (same_reads p q) (λ n. 0 < n) {x = suc (number p qs)} (λ t. omega arith) (λ n. ih)

pub number_append : (p : Point) (qs rs : List Point) → number p (qs ++ rs) ≡ number p qs + number p rs
unfolding number
number_append p [] rs = omega arith
number_append p (q ∷ qs) rs = step (same p q) (number_append p qs rs)
  where
    step : (b : Bool) → number p (qs ++ rs) ≡ number p qs + number p rs → cond b (suc (number p (qs ++ rs))) (number p (qs ++ rs)) ≡ cond b (suc (number p qs)) (number p qs) + number p rs
    step true e = omega arith
    step false e = e

-- the rows that pass a test and those that do not
pub number_parts : {A : Type 0} (f : A → Bool) (g : A → List Point) (p : Point) (xs : List A) → number p (flat_map g xs) ≡ number p (flat_map g (filter f xs)) + number p (flat_map g (filter (λ x. not (f x)) xs))
unfolding number
number_parts f g p [] = refl
number_parts f g p (x ∷ xs) = step (f x) (number_parts f g p xs)
  where
    step : (b : Bool) → number p (flat_map g xs) ≡ number p (flat_map g (filter f xs)) + number p (flat_map g (filter (λ y. not (f y)) xs))
        → number p (g x ++ flat_map g xs) ≡ number p (flat_map g (cond b (x ∷ filter f xs) (filter f xs))) + number p (flat_map g (cond (not b) (x ∷ filter (λ y. not (f y)) xs) (filter (λ y. not (f y)) xs)))
    step true e = omega (arith, number_append p (g x) (flat_map g xs), number_append p (g x) (flat_map g (filter f xs)))
    step false e = omega (arith, number_append p (g x) (flat_map g xs), number_append p (g x) (flat_map g (filter (λ y. not (f y)) xs)))

pub number_length : (p : Point) (qs : List Point) → number p qs ≤ length qs
unfolding number
number_length p [] = omega arith
number_length p (q ∷ qs) = let ih = number_length p qs in choose (same_reads p q) (λ n. n ≤ suc (length qs)) {x = suc (number p qs)} {y = number p qs} (λ t. omega arith) (λ n. omega arith)

-- ---- the order does not matter

pub swap_cond : (a b : Bool) (n : ℕ) → cond a (suc (cond b (suc n) n)) (cond b (suc n) n) ≡ cond b (suc (cond a (suc n) n)) (cond a (suc n) n)
swap_cond true true n = refl
swap_cond true false n = refl
swap_cond false true n = refl
swap_cond false false n = refl

pub number_perm : (p : Point) {qs rs : List Point} → Permᴰ qs rs → number p qs ≡ number p rs
unfolding number
number_perm p Permᴰ.nil = refl
number_perm p (Permᴰ.cons e d) = let ih = number_perm p d in λ i. cond (same p (e i)) (suc (ih i)) (ih i)
number_perm p (Permᴰ.swap {a} {b} {a'} {b'} {l} e₁ e₂) = swap_cond (same p a) (same p b) (number p l) ∙ (λ i. cond (same p (e₂ i)) (suc (cond (same p (e₁ i)) (suc (number p l)) (number p l))) (cond (same p (e₁ i)) (suc (number p l)) (number p l)))
number_perm p (Permᴰ.trans d₁ d₂) = number_perm p d₁ ∙ number_perm p d₂
