-- A number that occurs once stands at one place, and one that occurs otherwise at another place too.
use Prim.Native.Nat.{ℕ, suc, ◌<◌}
use native.Mathlib.Omega.{arith}
use mathlib.Core.List.{List, [], ◌∷◌}
use mathlib.Core.Logic.{◌⊎◌, inl, inr}
use mathlib.Core.Path.{◌≡◌, refl, ap, subst}
use lib.Dec.{eqb}
use lib.ListN.{length}
use Rattle.std.specs.List.{filter}
use Rattle.lists.proofs.Tests.{choose, eqb_reads, decide}
use Rattle.nets.specs.Nets.{At, first, later}
use Rattle.loose_pads.specs.Counting.{occurs}

pub occurs_here : (n m : ℕ) (ns : List ℕ) → n ≡ m → occurs n (m ∷ ns) ≡ suc (occurs n ns)
unfolding occurs
occurs_here n m ns e = choose (eqb_reads n m) (λ (l : List ℕ). length l ≡ suc (length (filter (eqb n) ns))) (λ _. refl) (λ f. absurd (f e))

pub occurs_on : (n m : ℕ) (ns : List ℕ) → (n ≡ m → ⊥) → occurs n (m ∷ ns) ≡ occurs n ns
unfolding occurs
occurs_on n m ns f = choose (eqb_reads n m) (λ (l : List ℕ). length l ≡ length (filter (eqb n) ns)) (λ e. absurd (f e)) (λ _. refl)

pub occurs_none : (n : ℕ) → occurs n [] ≡ 0
unfolding occurs
occurs_none n = refl

-- a number that occurs has a place, and one with a place occurs
some_at : (n : ℕ) (ns : List ℕ) → 0 < occurs n ns → (j : ℕ) × At ns j n
some_at n [] h = absurd (omega (arith, occurs_none n))
some_at n (m ∷ ns) h = here (decide (eqb_reads n m)) (some_at n ns)
  where
    here : (n ≡ m) ⊎ (n ≡ m → ⊥) → (0 < occurs n ns → (j : ℕ) × At ns j n) → (j : ℕ) × At (m ∷ ns) j n
    here (inl e) rest = (0, subst (λ k. At (k ∷ ns) 0 n) e first)
    here (inr f) rest = let r = rest (omega (arith, occurs_on n m ns f)) in (suc r.0, later r.1)

at_some_times : {ns : List ℕ} {i n : ℕ} → At ns i n → 0 < occurs n ns
at_some_times {ns = []} a = elim a [ ]
at_some_times {ns = m ∷ ns} {n = n} first = omega (arith, occurs_here n n ns refl)
at_some_times {ns = m ∷ ns} {n = n} (later a) = here (decide (eqb_reads n m)) (at_some_times a)
  where
    here : (n ≡ m) ⊎ (n ≡ m → ⊥) → 0 < occurs n ns → 0 < occurs n (m ∷ ns)
    here (inl e) h = omega (arith, occurs_here n m ns e)
    here (inr f) h = omega (arith, occurs_on n m ns f)

-- the same of two numbers that are equal
alone_same : {ns : List ℕ} {i j n k : ℕ} → At ns i n → At ns j k → n ≡ k → occurs n ns ≡ 1 → j ≡ i
alone_same {ns = []} a b p e = elim a [ ]
alone_same first first p e = refl
alone_same {ns = m ∷ ns} {n = n} first (later b) p e = absurd (omega (arith, occurs_here n n ns refl, at_some_times b, ap (λ x. occurs x ns) p))
alone_same {ns = m ∷ ns} {n = n} {k = k} (later a) first p e = absurd (omega (arith, occurs_here n k ns p, at_some_times a))
alone_same {ns = m ∷ ns} {n = n} (later {i = i} a) (later {i = j} b) p e = here (decide (eqb_reads n m)) (alone_same a b p)
  where
    here : (n ≡ m) ⊎ (n ≡ m → ⊥) → (occurs n ns ≡ 1 → j ≡ i) → suc j ≡ suc i
    here (inl q) rest = absurd (omega (arith, occurs_here n m ns q, at_some_times a))
    here (inr f) rest = omega (arith, rest (omega (arith, occurs_on n m ns f)))

pub alone_at : {ns : List ℕ} {i j n : ℕ} → At ns i n → At ns j n → occurs n ns ≡ 1 → j ≡ i
alone_at a b e = alone_same a b refl e

pub other_at : {ns : List ℕ} {i n : ℕ} → At ns i n → (occurs n ns ≡ 1 → ⊥) → (j : ℕ) × (j ≡ i → ⊥) × At ns j n
other_at {ns = []} a f = elim a [ ]
other_at {ns = m ∷ ns} {n = n} first f =
    let some : 0 < occurs n ns = above (decide (eqb_reads (occurs n ns) 0)) in
    let r = some_at n ns some in
    (suc r.0, λ e. omega arith, later r.1)
  where
    above : (occurs n ns ≡ 0) ⊎ (occurs n ns ≡ 0 → ⊥) → 0 < occurs n ns
    above (inl z) = absurd (f (omega (arith, occurs_here n n ns refl)))
    above (inr z) = omega (arith, z)
other_at {ns = m ∷ ns} {n = n} (later {i = i} a) f = here (decide (eqb_reads n m)) (other_at a)
  where
    here : (n ≡ m) ⊎ (n ≡ m → ⊥) → ((occurs n ns ≡ 1 → ⊥) → (j : ℕ) × (j ≡ i → ⊥) × At ns j n) → (j : ℕ) × (j ≡ suc i → ⊥) × At (m ∷ ns) j n
    here (inl p) rest = (0, λ e. omega arith, subst (λ k. At (k ∷ ns) 0 n) p first)
    here (inr g) rest = let r = rest (λ e. f (omega (arith, occurs_on n m ns g))) in (suc r.0, λ e. r.1 (omega arith), later r.2)
