-- What `numbering` gives: a number for each net, 0 for net 0, in order.
use mathlib.Core.Path.{◌≡◌, refl, sym, ap, ◌∙◌}
use mathlib.Core.Logic.{⊎_elim, ◌↔◌}
use mathlib.Core.List.{List, [], ◌∷◌}
use Prim.Native.Nat.{ℕ, suc, ◌-◌, ◌≤◌, ◌<◌, zero-le}
use native.Mathlib.Omega.{arith}
use lib.ListN.{length}
use borrow.Author.Tests.{eq-eqb, ne_eqb}
use Rattle.lists.proofs.Tests.{decide, eqb_reads}
use Rattle.nets.specs.Nets.{At, first, later, InOrder, done, old, new}
use Rattle.nets.specs.Numbers.{rank, meet, number_from, numbering}

-- ---- the nets met

pub rank_here : (x y : ℕ) (met : List ℕ) → x ≡ y → rank x (y ∷ met) ≡ suc (length met)
unfolding rank
rank_here x y met e = rw (eq-eqb x y e)

pub rank_on : (x y : ℕ) (met : List ℕ) → (x ≡ y → ⊥) → rank x (y ∷ met) ≡ rank x met
unfolding rank
rank_on x y met n = rw (ne_eqb x y n)

pub meet_new : (x : ℕ) (met : List ℕ) → rank x met ≡ 0 → meet x met ≡ x ∷ met
unfolding meet
meet_new x met e = rw (eq-eqb (rank x met) 0 e)

pub meet_old : (x : ℕ) (met : List ℕ) → (rank x met ≡ 0 → ⊥) → meet x met ≡ met
unfolding meet
meet_old x met n = rw (ne_eqb (rank x met) 0 n)

pub rank_low : (x : ℕ) (met : List ℕ) → rank x met ≤ length met
unfolding rank
rank_low x [] = zero-le
rank_low x (y ∷ met) = ⊎_elim (λ e. omega (arith, rank_here x y met e)) (λ n. omega (arith, rank_on x y met n, rank_low x met)) (decide (eqb_reads x y))

-- a rank tells its net
rank_told : (x y : ℕ) (met : List ℕ) → 0 < rank x met → rank x met ≡ rank y met → x ≡ y
unfolding rank
rank_told x y [] h e = absurd (omega arith)
rank_told x y (z ∷ met) h e = ⊎_elim
    (λ p. ⊎_elim
    (λ q. p ∙ sym q)
    (λ q. absurd (omega (arith, rank_here x z met p, rank_on y z met q, rank_low y met)))
    (decide (eqb_reads y z)))
    (λ p. ⊎_elim
    (λ q. absurd (omega (arith, rank_here y z met q, rank_on x z met p, rank_low x met)))
    (λ q. rank_told x y met (omega (arith, rank_on x z met p)) (sym (rank_on x z met p) ∙ e ∙ rank_on y z met q))
    (decide (eqb_reads y z)))
    (decide (eqb_reads x z))

-- by cases: a net that is met was met before, or is new
pub by_meet : (x : ℕ) (met : List ℕ) (C : List ℕ → Type 0) → (rank x met ≡ 0 → C (x ∷ met)) → ((rank x met ≡ 0 → ⊥) → C met) → C (meet x met)
by_meet x met C f g = ⊎_elim (λ e. rw (meet_new x met e) (f e)) (λ n. rw (meet_old x met n) (g n)) (decide (eqb_reads (rank x met) 0))

-- a net that was met keeps its rank
rank_stays : (x y : ℕ) (met : List ℕ) → 0 < rank x met → rank x (meet y met) ≡ rank x met
rank_stays x y met h = by_meet y met (λ s. rank x s ≡ rank x met) (λ e. rank_on x y met (λ q. omega (arith, e, ap (λ z. rank z met) q))) (λ n. refl)

pub rank_met : (x : ℕ) (met : List ℕ) → 0 < rank x (meet x met)
rank_met x met = by_meet x met (λ s. 0 < rank x s) (λ e. omega (arith, rank_here x x met refl)) (λ n. omega (arith, n))

-- all the nets met
unfoldable pub met_all : List ℕ → List ℕ → List ℕ
met_all met [] = met
met_all met (x ∷ xs) = met_all (meet x met) xs

rank_stays_all : (x : ℕ) (met xs : List ℕ) → 0 < rank x met → rank x (met_all met xs) ≡ rank x met
unfolding met_all
rank_stays_all x met [] h = refl
rank_stays_all x met (y ∷ xs) h = let e = rank_stays x y met h in rank_stays_all x (meet y met) xs (omega (arith, e)) ∙ e

-- ---- the numbers

pub length_numbers : (met xs : List ℕ) → length (number_from met xs) ≡ length xs
unfolding number_from
length_numbers met [] = refl
length_numbers met (x ∷ xs) = ap suc (length_numbers (meet x met) xs)

numbers_order : (k : ℕ) (met xs : List ℕ) → length met ≡ suc k → InOrder k (number_from met xs)
unfolding number_from
numbers_order k met [] len = done
numbers_order k met (x ∷ xs) len = by_meet x met (λ s. InOrder k ((rank x s - 1) ∷ number_from s xs))
    (λ e. let n : rank x (x ∷ met) - 1 ≡ suc k = omega (arith, rank_here x x met refl) in rw n (new (numbers_order (suc k) (x ∷ met) xs (ap suc len))))
    (λ n. old (omega (arith, rank_low x met)) (numbers_order k met xs len))

-- a number is one less than the rank of its net among all
number_at : (met xs : List ℕ) {i x n : ℕ} → At xs i x → At (number_from met xs) i n → suc n ≡ rank x (met_all met xs)
unfolding number_from met_all
number_at met [] a b = elim a [ ]
number_at met (x ∷ xs) first first = let h = rank_met x met in let e : suc (rank x (meet x met) - 1) ≡ rank x (meet x met) = omega arith in e ∙ sym (rank_stays_all x (meet x met) xs h)
number_at met (y ∷ xs) (later a) (later b) = number_at (meet y met) xs a b

module _ (xs : List ℕ) where
  pub numbering_each : length (numbering xs) ≡ length xs
  unfolding numbering
  numbering_each = length_numbers (0 ∷ []) xs

  pub numbering_order : InOrder 0 (numbering xs)
  unfolding numbering
  numbering_order = numbers_order 0 (0 ∷ []) xs refl

  -- one number exactly for one net
  pub numbering_one : {i j x y m n : ℕ} → At xs i x → At (numbering xs) i m → At xs j y → At (numbering xs) j n → (m ≡ n) ↔ (x ≡ y)
  unfolding numbering
  numbering_one {x = x} {y = y} a s b t =
      let ex = number_at (0 ∷ []) xs a s in
      let ey = number_at (0 ∷ []) xs b t in
      let all = met_all (0 ∷ []) xs in
      (λ e. rank_told x y all (omega arith) (sym ex ∙ ap suc e ∙ ey), λ e. omega (arith, ap (λ z. rank z all) e))

  -- 0 exactly for net 0
  pub numbering_zero : {i x n : ℕ} → At xs i x → At (numbering xs) i n → (n ≡ 0) ↔ (x ≡ 0)
  unfolding numbering
  numbering_zero {x = x} a s =
      let ex = number_at (0 ∷ []) xs a s in
      let all = met_all (0 ∷ []) xs in
      let h = rank_here 0 0 [] refl in
      let ez : rank 0 all ≡ 1 = rank_stays_all 0 (0 ∷ []) xs (omega (arith, h)) ∙ h in
      (λ e. rank_told x 0 all (omega arith) (omega arith), λ e. omega (arith, ap (λ z. rank z all) e))
