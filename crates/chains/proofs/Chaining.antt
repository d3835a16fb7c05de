-- Chains, built one number at a time.
use Prim.Native.Nat.{ℕ, zero, suc, ◌+◌, ◌≤◌, ◌<◌}
use native.Mathlib.Nat.{not-suc-le-zero}
use native.Mathlib.Numerals.{add-one}
use native.Mathlib.Omega.{arith}
use mathlib.Core.Path.{◌≡◌, refl, sym, ap, ◌∙◌, subst}
use mathlib.Core.List.{List}
use mathlib.Core.Logic.{⊎_elim}
use lib.ListN.{length, get_or, take, set, replicate}
use lib.Seq.{get_or-set_same, get_or-set_other, get_or-take, length-take-le}
use Rattle.lists.proofs.Tests.{decide, eqb_reads, compare}
use Rattle.chains.specs.Chains.{Met, here, later, Traced}

zeros : (n k : ℕ) → ◌≡◌ {A = ℕ} (get_or (replicate n 0) k 0) 0
zeros zero k = refl
zeros (suc n) zero = refl
zeros (suc n) (suc k) = zeros n k

-- what holds of the numbers below i, and of i, holds of those up to i
pub up_to : (P : ℕ → Type 0) {i : ℕ} → ((k : ℕ) → k < i → P k) → P i → (k : ℕ) → k < i + 1 → P k
up_to P {i} f p k h = ⊎_elim (f k) (⊎_elim (λ (q : k ≡ i). subst P (sym q) p) (λ (l : i < k). absurd (omega arith))) (compare k i)

-- the first i numbers of l are chained
pub record Building (key : ℕ → ℕ) (l : List ℕ) (i : ℕ) (last before : List ℕ) : Type 0 where
  pub chained : Traced key (take i l) last before

pub build_start : (key : ℕ → ℕ) (l : List ℕ) (m n : ℕ) → Building key l 0 (replicate m 0) (replicate n 0)
build_start key l m n = record {
  chained = record {
    met = λ j h. absurd (not-suc-le-zero h);
    falls = λ j h. absurd (not-suc-le-zero h);
    starts = λ k. omega (arith, zeros m k);
  };
}

pub build_end : {key : ℕ → ℕ} {l last before : List ℕ} {i : ℕ} (n : ℕ) → Building key l i last before → i ≡ n → Traced key (take n l) last before
build_end {key} {l} {last} {before} n b e = subst (λ (k : ℕ). Traced key (take k l) last before) e b.chained

-- a link further up changes nothing of what is met from below
met_set : {before : List ℕ} {k j : ℕ} (i v : ℕ) → ((m : ℕ) → m < i → get_or before m 0 ≤ m) → Met before k j → k ≤ i → Met (set before i v) k j
met_set i v f here h = here
met_set {before} {j = j} i v f (later {i = m} p) h =
    let other : get_or (set before i v) m 0 ≡ get_or before m 0 = get_or-set_other before i m v 0 (λ e. omega arith) in
    let low : get_or before m 0 ≤ i = omega (arith, f m (omega arith)) in
    later (subst (λ (k : ℕ). Met (set before i v) k j) (sym other) (met_set i v f p low))

-- the next number goes in front of the chain of its key
pub build_next : {key : ℕ → ℕ} {l last before : List ℕ} {i : ℕ} (k : ℕ) → Building key l i last before → k ≡ key (get_or l i 0) → i < length l → k < length last → i < length before
    → Building key l (i + 1) (set last k (i + 1)) (set before i (get_or last k 0))
build_next {key} {l} {last} {before} {i} k built e hl hk hb = record {
  chained = record {
    met = λ j h. subst (λ (x : ℕ). Met new (get_or (set last k (i + 1)) (key x) 0) j) (sym (get_or-take (i + 1) l j 0 (omega (arith, size)))) (each j (omega (arith, size)));
    falls = λ j h. up_to (λ (x : ℕ). get_or new x 0 ≤ x)
        (λ m b. subst (λ (x : ℕ). x ≤ m) (sym (get_or-set_other before i m (get_or last k 0) 0 (λ q. omega arith))) (falls m b))
        (subst (λ (x : ℕ). x ≤ i) (sym (get_or-set_same before i (get_or last k 0) 0 hb)) (starts k))
        j (omega (arith, size));
    starts = λ m. ⊎_elim
        (λ (q : m ≡ k). subst (λ (x : ℕ). get_or (set last k (i + 1)) x 0 ≤ length (take (i + 1) l)) (sym q) (omega (arith, get_or-set_same last k (i + 1) 0 hk, size)))
        (λ (q : m ≡ k → ⊥). omega (arith, get_or-set_other last k m (i + 1) 0 q, starts m, size))
        (decide (eqb_reads m k));
  };
}
  where
    c : Traced key (take i l) last before
    c = built.chained

    new : List ℕ
    new = set before i (get_or last k 0)

    size : length (take (i + 1) l) ≡ i + 1
    size = length-take-le (i + 1) l (omega arith)

    old : length (take i l) ≡ i
    old = length-take-le i l (omega arith)

    falls : (j : ℕ) → j < i → get_or before j 0 ≤ j
    falls j h = c.falls j (omega (arith, old))

    starts : (m : ℕ) → get_or last m 0 ≤ i
    starts m = omega (arith, c.starts m, old)

    -- a number before: by the chain as it was, or from the new front on
    before_it : (j : ℕ) → j < i → Met new (get_or (set last k (i + 1)) (key (get_or l j 0)) 0) j
    before_it j h =
        let m : Met new (get_or last (key (get_or l j 0)) 0) j = met_set i (get_or last k 0) falls (subst (λ (x : ℕ). Met before (get_or last (key x) 0) j) (get_or-take i l j 0 h) (c.met j (omega (arith, old)))) (starts (key (get_or l j 0))) in
        ⊎_elim
        (λ (q : key (get_or l j 0) ≡ k). subst (λ (x : ℕ). Met new x j) (sym (ap (λ (x : ℕ). get_or (set last k (i + 1)) x 0) q ∙ get_or-set_same last k (i + 1) 0 hk ∙ add-one i))
        (later (subst (λ (x : ℕ). Met new x j) (sym (get_or-set_same before i (get_or last k 0) 0 hb)) (subst (λ (x : ℕ). Met new (get_or last x 0) j) q m))))
        (λ (q : key (get_or l j 0) ≡ k → ⊥). subst (λ (x : ℕ). Met new x j) (sym (get_or-set_other last k (key (get_or l j 0)) (i + 1) 0 q)) m)
        (decide (eqb_reads (key (get_or l j 0)) k))

    it : Met new (get_or (set last k (i + 1)) (key (get_or l i 0)) 0) i
    it = subst (λ (x : ℕ). Met new x i) (sym (ap (λ (x : ℕ). get_or (set last k (i + 1)) x 0) (sym e) ∙ get_or-set_same last k (i + 1) 0 hk ∙ add-one i)) here

    each : (j : ℕ) → j < i + 1 → Met new (get_or (set last k (i + 1)) (key (get_or l j 0)) 0) j
    each = up_to (λ (x : ℕ). Met new (get_or (set last k (i + 1)) (key (get_or l x 0)) 0) x) before_it it
