-- The root that falling aliases lead to, and what a wire does to the roots: it merges two of them.
use mathlib.Core.Path.{◌≡◌, refl, sym, ap, ap₂, ◌∙◌}
use mathlib.Core.Bool.{cond}
use mathlib.Core.Logic.{⊎_elim}
use mathlib.Core.List.{List}
use Prim.Native.Nat.{ℕ, zero, suc, ◌≤◌, ◌<◌, min, max}
use native.Mathlib.Nat.{eq-or-lt_of_le, le_refl}
use native.Mathlib.Omega.{arith}
use lib.Dec.{eqb}
use lib.ListN.{length, get_or, set, length-set}
use lib.Seq.{get_or-set_same, get_or-set_other}
use Rattle.lists.proofs.Tests.{decide, eqb_reads, choose}
use Rattle.nets.specs.Numbers.{merged}
use Rattle.nets.specs.Tables.{Falling, follow, root_of, join_of}
use Rattle.nets.proofs.Tells.{larger}
use Rattle.nets.proofs.Tabulate.{after_set}

follow_still : (k : ℕ) (al : List ℕ) (n : ℕ) → get_or al n 0 ≡ n → follow k al n ≡ n
unfolding follow
follow_still zero al n e = refl
follow_still (suc k) al n e = ap (follow k al) e ∙ follow_still k al n e

-- where the alias is the number itself
pub root_still : (al : List ℕ) (n : ℕ) → get_or al n 0 ≡ n → root_of al n ≡ n
unfolding root_of
root_still al n e = follow_still n al n e

pub set_falls : (al : List ℕ) → Falling al → (n v : ℕ) → v ≤ n → n < length al → Falling (set al n v)
set_falls al f n v le inside = record {
  low = λ j. ⊎_elim
      (λ e. rw e (omega (arith, get_or-set_same al n v 0 inside)))
      (λ ne. omega (arith, get_or-set_other al n j v 0 ne, f.low j))
      (decide (eqb_reads j n));
}

module _ (al : List ℕ) (f : Falling al) where
  -- induction along the aliases
  by_aliases : (P : ℕ → Type 0) → ((n : ℕ) → get_or al n 0 ≡ n → P n) → ((n : ℕ) → get_or al n 0 < n → P (get_or al n 0) → P n) → (n : ℕ) → P n
  by_aliases P still on n = go (suc n) n (le_refl (suc n))
    where
      go : (k n : ℕ) → n < k → P n
      go zero n h = absurd (omega arith)
      go (suc k) n h = ⊎_elim (still n) (λ lt. on n lt (go k (get_or al n 0) (omega arith))) (eq-or-lt_of_le (f.low n))

  zero_still : get_or al 0 0 ≡ 0
  zero_still = omega (arith, f.low 0)

  -- n steps are enough
  follow_enough : (k j n : ℕ) → n ≤ k → n ≤ j → follow k al n ≡ follow j al n
  unfolding follow
  follow_enough zero j n hk hj = let z : n ≡ 0 = omega arith in rw z (sym (follow_still j al 0 zero_still))
  follow_enough (suc k) zero n hk hj = let z : n ≡ 0 = omega arith in rw z (follow_still (suc k) al 0 zero_still)
  follow_enough (suc k) (suc j) n hk hj =
      ⊎_elim (λ e. follow_still (suc k) al n e ∙ sym (follow_still (suc j) al n e))
      (λ lt. follow_enough k j (get_or al n 0) (omega arith) (omega arith))
      (eq-or-lt_of_le (f.low n))

  -- an alias has the root of its number
  pub root_step : (n : ℕ) → root_of al n ≡ root_of al (get_or al n 0)
  unfolding root_of follow
  root_step n = follow_enough n (suc n) n (le_refl n) (omega arith) ∙ follow_enough n (get_or al n 0) (get_or al n 0) (f.low n) (le_refl (get_or al n 0))

  pub root_fixed : (n : ℕ) → get_or al (root_of al n) 0 ≡ root_of al n
  root_fixed = by_aliases (λ n. get_or al (root_of al n) 0 ≡ root_of al n)
      (λ n e. rw (root_still al n e) e)
      (λ n lt ih. rw (root_step n) ih)

  pub root_low : (n : ℕ) → root_of al n ≤ n
  root_low = by_aliases (λ n. root_of al n ≤ n)
      (λ n e. omega (arith, root_still al n e))
      (λ n lt ih. omega (arith, root_step n))

-- ---- a wire from u to v
module _ (al : List ℕ) (f : Falling al) (u v : ℕ) (hu : u < length al) (hv : v < length al) where
  abbrev M : ℕ
  M = max (root_of al u) (root_of al v)

  abbrev m : ℕ
  m = min (root_of al u) (root_of al v)

  inside : M < length al
  inside = omega (arith, root_low al f u, root_low al f v)

  still_M : get_or al M 0 ≡ M
  still_M = ⊎_elim (λ w. rw w.0 (root_fixed al f u)) (λ w. rw w.0 (root_fixed al f v)) (larger (root_of al u) (root_of al v))

  still_m : get_or al m 0 ≡ m
  still_m = ⊎_elim (λ w. rw w.1 (root_fixed al f v)) (λ w. rw w.1 (root_fixed al f u)) (larger (root_of al u) (root_of al v))

  pub join_falls : Falling (join_of al u v)
  unfolding join_of
  join_falls = set_falls al f M m (omega arith) inside

  at_M : root_of (join_of al u v) M ≡ m
  unfolding join_of
  at_M =
      root_step (set al M m) join_falls M ∙ ap (root_of (set al M m)) (get_or-set_same al M m 0 inside)
      ∙ root_still (set al M m) m (after_set al M m m m inside (λ e. refl) (λ ne. still_m))

  -- the larger root becomes the smaller one, and the others stay
  root_same : (n : ℕ) → get_or al n 0 ≡ n → root_of (join_of al u v) n ≡ merged (root_of al) u v n
  unfolding join_of merged
  root_same n e = rw (root_still al n e) (choose (eqb_reads n M) (λ (k : ℕ). root_of (set al M m) n ≡ k)
      (λ q. rw q at_M)
      (λ ne. root_still (set al M m) n (get_or-set_other al M n m 0 ne ∙ e)))

  root_next : (n : ℕ) → get_or al n 0 < n → root_of (join_of al u v) n ≡ root_of (join_of al u v) (get_or al n 0)
  unfolding join_of
  root_next n lt =
      let ne : n ≡ M → ⊥ = λ q. omega (arith, still_M, ap (λ j. get_or al j 0) q) in
      root_step (set al M m) join_falls n ∙ ap (root_of (set al M m)) (get_or-set_other al M n m 0 ne)

  merged_next : (n : ℕ) → merged (root_of al) u v n ≡ merged (root_of al) u v (get_or al n 0)
  unfolding merged
  merged_next n = ap (λ (x : ℕ). cond (eqb x M) m x) (root_step al f n)

  pub root_joined : (n : ℕ) → root_of (join_of al u v) n ≡ merged (root_of al) u v n
  root_joined = by_aliases al f (λ n. root_of (join_of al u v) n ≡ merged (root_of al) u v n) root_same (λ n lt ih. root_next n lt ∙ ih ∙ sym (merged_next n))

-- the two ways in which the code sets it
pub join_up : (al : List ℕ) (u v x y : ℕ) → x ≡ root_of al u → y ≡ root_of al v → x < y → set al y x ≡ join_of al u v
unfolding join_of
join_up al u v x y ex ey lt = ap₂ (set al) (omega arith) (omega arith)

pub join_down : (al : List ℕ) (u v x y : ℕ) → x ≡ root_of al u → y ≡ root_of al v → y ≤ x → set al x y ≡ join_of al u v
unfolding join_of
join_down al u v x y ex ey le = ap₂ (set al) (omega arith) (omega arith)

pub length_join : (al : List ℕ) (u v : ℕ) → length (join_of al u v) ≡ length al
unfolding join_of
length_join al u v = length-set al (max (root_of al u) (root_of al v)) (min (root_of al u) (root_of al v))
