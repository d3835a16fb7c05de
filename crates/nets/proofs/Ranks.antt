-- The ranks of the nets met, in a table: a net is met, and the pads passed have their numbers.
use mathlib.Core.Path.{◌≡◌, refl, sym, ap, subst, ◌∙◌}
use mathlib.Core.List.{List, [], ◌∷◌, ◌++◌}
use Prim.Native.Nat.{ℕ, zero, suc, ◌+◌, ◌-◌, ◌≤◌, ◌<◌}
use native.Mathlib.Omega.{arith}
use lib.ListN.{length, get_or, set, replicate, length-set, length-replicate}
use Rattle.lists.specs.Tables.{Holds}
use Rattle.lists.proofs.Tables.{holds_as, holds_none, holds_push}
use Rattle.nets.specs.Numbers.{rank, meet, number_from, numbering}
use Rattle.nets.specs.Tables.{Ranked}
use Rattle.nets.proofs.Tabulate.{after_set}
use Rattle.nets.proofs.Numbering.{rank_here, rank_on, rank_met, meet_new, meet_old, by_meet, met_all}

-- ---- a net is met

zeros_at : (n i : ℕ) → ◌≡◌ {A = ℕ} (get_or (replicate n 0) i 0) 0
zeros_at zero i = refl
zeros_at (suc n) zero = refl
zeros_at (suc n) (suc i) = zeros_at n i

pub ranked_none : Ranked [] 0 (replicate 1409 0)
unfolding rank
ranked_none = record { long = length-replicate {A = ℕ} 1409 0; all = refl; ranks = λ x h. zeros_at 1409 x }

module _ (met : List ℕ) (count : ℕ) (given : List ℕ) (net : ℕ) (inside : net < 1409) (r : Ranked met count given) where
  pub ranked_new : get_or given net 0 ≡ 0 → Ranked (meet net met) (count + 1) (set given net (count + 1))
  ranked_new e = rw (meet_new net met (sym (r.ranks net inside) ∙ e)) (record {
    long = length-set given net (count + 1) ∙ r.long;
    all = omega (arith, r.all);
    ranks = λ x h. after_set given net (count + 1) x (rank x (net ∷ met)) (omega (arith, r.long))
        (λ q. omega (arith, r.all, rank_here x net met q))
        (λ n. r.ranks x h ∙ sym (rank_on x net met n));
  })

  pub ranked_old : (get_or given net 0 ≡ 0 → ⊥) → Ranked (meet net met) count given
  ranked_old n = rw (meet_old net met (λ e. n (r.ranks net inside ∙ e))) r

-- ---- one pad more

met_next : (met xs : List ℕ) (x : ℕ) → met_all met (xs ++ (x ∷ [])) ≡ meet x (met_all met xs)
unfolding met_all
met_next met [] x = refl
met_next met (y ∷ xs) x = met_next (meet y met) xs x

number_next : (met xs : List ℕ) (x : ℕ) → number_from met (xs ++ (x ∷ [])) ≡ number_from met xs ++ ((rank x (meet x (met_all met xs)) - 1) ∷ [])
unfolding number_from met_all
number_next met [] x = refl
number_next met (y ∷ xs) x = ap (λ l. (rank y (meet y met) - 1) ∷ l) (number_next (meet y met) xs x)

length_meet : (x : ℕ) (met : List ℕ) → length (meet x met) ≤ suc (length met)
length_meet x met = by_meet x met (λ s. length s ≤ suc (length met)) (λ e. omega arith) (λ n. omega arith)

-- the nets xs of the pads passed: their ranks, with the fed net met first, and their numbers
pub record Passed (xs : List ℕ) (count : ℕ) (given out : List ℕ) (i : ℕ) : Type 0 where
  pub few : count ≤ i + 1
  pub ranked : Ranked (met_all (0 ∷ []) xs) count given
  pub numbers : Holds 384 0 (numbering xs) out i

-- the fed net is met before all
pub passed_none : {count : ℕ} {given : List ℕ} → Ranked (meet 0 []) count given → Passed [] count given (replicate 384 0) 0
unfolding met_all numbering number_from rank
passed_none {count} {given} r =
    let first : Ranked (0 ∷ []) count given = subst (λ met. Ranked met count given) (meet_new 0 [] refl) r in
    record { few = omega (arith, first.all); ranked = first; numbers = holds_none 384 0 }

module _ (xs : List ℕ) (count : ℕ) (given out : List ℕ) (i : ℕ) (p : Passed xs count given out i) (net : ℕ) (inside : net < 1409)
    (count' : ℕ) (given' : List ℕ) (r : Ranked (meet net (met_all (0 ∷ []) xs)) count' given') where
  -- the rank of the net that is met
  here : get_or given' net 0 ≡ rank net (meet net (met_all (0 ∷ []) xs))
  here = r.ranks net inside

  pub passed_rank : 0 < get_or given' net 0
  passed_rank = omega (arith, here, rank_met net (met_all (0 ∷ []) xs))

  pub passed_next : i < 384 → Passed (xs ++ (net ∷ [])) count' given' (set out i (get_or given' net 0 - 1)) (i + 1)
  unfolding numbering
  passed_next h = record {
    few = omega (arith, p.few, p.ranked.all, r.all, length_meet net (met_all (0 ∷ []) xs));
    ranked = rw (met_next (0 ∷ []) xs net) r;
    numbers = holds_as (ap (λ n. number_from (0 ∷ []) xs ++ ((n - 1) ∷ [])) here ∙ sym (number_next (0 ∷ []) xs net)) (holds_push (get_or given' net 0 - 1) p.numbers h);
  }
