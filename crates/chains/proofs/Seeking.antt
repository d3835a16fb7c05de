-- A number sought along its chain. While it is sought, if it is in the list it is still to be met.
use Prim.Native.Nat.{ℕ, zero, suc, ◌-◌, ◌≤◌, ◌<◌}
use native.Mathlib.Nat.{not-suc-le-zero, le_of_suc-le-suc}
use native.Mathlib.Omega.{arith}
use mathlib.Core.Path.{◌≡◌, refl, sym, ap, ◌∙◌, subst}
use mathlib.Core.List.{List, [], ◌∷◌}
use mathlib.Core.Bool.{Bool, true, false, ◌||◌, false≢true}
use lib.Dec.{T, eqb, ltb}
use borrow.Author.Tests.{eq-eqb, eqb-true}
use lib.ListN.{length, get_or}
use Rattle.std.specs.List.{list_any}
use Rattle.lists.proofs.Tests.{holds, passes, agree, ltb_reads}
use Rattle.chains.specs.Chains.{Met, here, later, Traced, FoundAt}

-- c, if it is one of the list, is still to be met from k on
pub record Sought (c : ℕ) (cs before : List ℕ) (k : ℕ) : Type 0 where
  pub ahead : list_any (eqb c) cs ≡ true → (j : ℕ) × (get_or cs j 0 ≡ c) × Met before k j
  pub within : k ≤ length cs

any_at : (c : ℕ) (cs : List ℕ) → list_any (eqb c) cs ≡ true → (j : ℕ) × (j < length cs) × (get_or cs j 0 ≡ c)
any_at c [] e = absurd (false≢true e)
any_at c (x ∷ cs) e = step (eqb c x) refl (any_at c cs) e
  where
    step : (b : Bool) → eqb c x ≡ b → (list_any (eqb c) cs ≡ true → (j : ℕ) × (j < length cs) × (get_or cs j 0 ≡ c)) → (b || list_any (eqb c) cs) ≡ true → (j : ℕ) × (j < suc (length cs)) × (get_or (x ∷ cs) j 0 ≡ c)
    step true q ih e = (zero, omega arith, sym (eqb-true c x q))
    step false q ih e = let t = ih e in (suc t.0, omega (arith, t.1), t.2)

at_any : (c : ℕ) (cs : List ℕ) (j : ℕ) → j < length cs → get_or cs j 0 ≡ c → list_any (eqb c) cs ≡ true
at_any c [] j h e = absurd (not-suc-le-zero h)
at_any c (x ∷ cs) zero h e = rw (eq-eqb c x (sym e))
at_any c (x ∷ cs) (suc j) h e = step (eqb c x) (at_any c cs j (le_of_suc-le-suc h) e)
  where
    step : (b : Bool) → list_any (eqb c) cs ≡ true → (b || list_any (eqb c) cs) ≡ true
    step true q = refl
    step false q = q

pub sought_start : {key : ℕ → ℕ} {cs last before : List ℕ} (c : ℕ) → Traced key cs last before → Sought c cs before (get_or last (key c) 0)
sought_start {key} {cs} {last} {before} c h = record {
  ahead = λ e. let t = any_at c cs e in (t.0, t.2, subst (λ (x : ℕ). Met before (get_or last (key x) 0) t.0) t.2 (h.met t.0 t.1));
  within = h.starts (key c);
}

pub sought_at : {c j k : ℕ} {cs before : List ℕ} → Sought c cs before j → k ≡ j → Sought c cs before k
sought_at {c} {cs = cs} {before} s e = subst (λ (x : ℕ). Sought c cs before x) (sym e) s

-- the number at the link is another one
met_next : {before : List ℕ} {i j : ℕ} → Met before (suc i) j → (j ≡ i → ⊥) → Met before (get_or before i 0) j
met_next here f = absurd (f refl)
met_next (later p) f = p

-- the link at k leads further down
pub sought_falls : {key : ℕ → ℕ} {cs last before : List ℕ} {c k : ℕ} → Traced key cs last before → Sought c cs before k → 0 < k → get_or before (k - 1) 0 ≤ k - 1
sought_falls {k = k} h s l = h.falls (k - 1) (omega (arith, s.within))

pub sought_next : {c k : ℕ} {cs before : List ℕ} → Sought c cs before k → 0 < k → (get_or cs (k - 1) 0 ≡ c → ⊥) → get_or before (k - 1) 0 ≤ k - 1 → Sought c cs before (get_or before (k - 1) 0)
sought_next {c} {k} {cs} {before} s h f g = record {
  ahead = λ e. let t = s.ahead e in let is : k ≡ suc (k - 1) = omega arith in
      (t.0, t.1, met_next (subst (λ (x : ℕ). Met before x t.0) is t.2) (λ q. f (ap (λ (x : ℕ). get_or cs x 0) (sym q) ∙ t.1)));
  within = omega (arith, s.within);
}

-- the number at the link is the one sought
pub found_here : {c k n : ℕ} {cs before : List ℕ} → Sought c cs before k → 0 < k → k ≤ n → get_or cs (k - 1) 0 ≡ c → FoundAt c cs n (k - 1)
found_here {c} {k} {n} {cs} s h m e = record {
  there = agree (ltb (k - 1) n) (list_any (eqb c) cs) (λ t. subst T (sym (at_any c cs (k - 1) (omega (arith, s.within)) e)) tt) (λ t. passes (ltb_reads (k - 1) n) (omega arith));
  is = λ l. e;
}

met_end : {before : List ℕ} {k j : ℕ} → Met before k j → k ≡ 0 → ⊥
met_end here e = omega arith
met_end (later p) e = omega arith

-- the chain ends without it
pub found_none : {c k : ℕ} {cs before : List ℕ} (n : ℕ) → Sought c cs before k → k ≡ 0 → FoundAt c cs n n
found_none {c} {k} {cs} n s e = record {
  there = agree (ltb n n) (list_any (eqb c) cs) (λ t. absurd (omega (arith, holds (ltb_reads n n) t))) (λ t. absurd (none (list_any (eqb c) cs) refl t));
  is = λ l. absurd (omega arith);
}
  where
    none : (b : Bool) → list_any (eqb c) cs ≡ b → T b → ⊥
    none true q t = met_end (s.ahead q).2 e
    none false q t = t
