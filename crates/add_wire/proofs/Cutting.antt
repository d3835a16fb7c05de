-- A wire cut at marked places one after another: one more cut is one more mark.
use Prim.Native.Nat.{ℕ, zero, suc, ◌+◌, ◌≤◌, ◌<◌}
use native.Mathlib.Omega.{arith}
use mathlib.Core.Path.{◌≡◌, refl, sym, ap, ◌∙◌, subst}
use mathlib.Core.List.{List, [], ◌∷◌, ◌++◌}
use mathlib.Core.Logic.{⊎_elim, ◌⊎◌, inl, inr}
use mathlib.Core.Bool.{Bool, true, false, ◌&&◌, ◌||◌, cond, or-true, false≢true}
use borrow.Author.Tests.{eq-eqb, eqb-true}
use lib.Dec.{eqb}
use Rattle.std.specs.List.{flat_map}
use Rattle.lists.proofs.Tests.{Reads, decide, choose, ltb_reads, and_reads, compare}
use Rattle.sheet.specs.declared.Wire.{Wire}
use Rattle.sheet.specs.Split.{up_to, from_on}
use Rattle.add_wire.specs.Marks.{strictly_in, cut_from}

-- strictly inside
abbrev pub In : ℕ → Wire → Type 0
In b v = (v.start < b) × (b < v.end)

within_reads : (b : ℕ) (v : Wire) → Reads (In b v) (strictly_in b v)
within_reads b v = and_reads (ltb_reads v.start b) (ltb_reads b v.end)

-- one cut
abbrev pub cut_at : ℕ → Wire → List Wire
cut_at b v = cond (strictly_in b v) (up_to b v ∷ from_on b v ∷ []) (v ∷ [])

cut_in : (b : ℕ) (v : Wire) → In b v → cut_at b v ≡ up_to b v ∷ from_on b v ∷ []
cut_in b v h = choose (within_reads b v) (λ l. l ≡ up_to b v ∷ from_on b v ∷ []) (λ p. refl) (λ f. absurd (f h))

cut_out : (b : ℕ) (v : Wire) → (In b v → ⊥) → cut_at b v ≡ v ∷ []
cut_out b v f = choose (within_reads b v) (λ l. l ≡ v ∷ []) (λ p. absurd (f p)) (λ n. refl)

-- a step of the scan, by whether it cuts
module _ (m : ℕ → Bool) (a k : ℕ) (v : Wire) where
  pub cuts : m a ≡ true → In a v → cut_from m a (suc k) v ≡ up_to a v ∷ cut_from m (suc a) k (from_on a v)
  unfolding cut_from
  cuts e h = rw e (choose (within_reads a v) (λ l. l ≡ up_to a v ∷ cut_from m (suc a) k (from_on a v)) (λ p. refl) (λ f. absurd (f h)))

  pub skips : (m a ≡ true → In a v → ⊥) → cut_from m a (suc k) v ≡ cut_from m (suc a) k v
  unfolding cut_from
  skips f = step (m a) refl
    where
      step : (b : Bool) → m a ≡ b → cond (b && strictly_in a v) (up_to a v ∷ cut_from m (suc a) k (from_on a v)) (cut_from m (suc a) k v) ≡ cut_from m (suc a) k v
      step false e = refl
      step true e = choose (within_reads a v) (λ l. l ≡ cut_from m (suc a) k v) (λ p. absurd (f e p)) (λ n. refl)

  -- which of the two
  pub whether : ((m a ≡ true) × In a v) ⊎ (m a ≡ true → In a v → ⊥)
  whether = step (m a) refl
    where
      step : (b : Bool) → m a ≡ b → ((m a ≡ true) × In a v) ⊎ (m a ≡ true → In a v → ⊥)
      step false e = inr (λ t h. absurd (false≢true (sym e ∙ t)))
      step true e = ⊎_elim (λ (p : In a v). inl (e, p)) (λ (n : In a v → ⊥). inr (λ t. n)) (decide (within_reads a v))

one_true : (x y : Bool) → (x || y) ≡ true → (x ≡ true) ⊎ (y ≡ true)
one_true true y e = inl refl
one_true false y e = inr e

-- ---- a cut at b

module _ (m : ℕ → Bool) (b : ℕ) where
  -- m, and b too
  abbrev with_b : ℕ → Bool
  with_b c = m c || eqb b c

  -- b is not strictly inside: nothing changes
  outside : (a k : ℕ) (v : Wire) → (In b v → ⊥) → flat_map (cut_at b) (cut_from m a k v) ≡ cut_from m a k v
  unfolding cut_from
  outside a zero v f = ap (λ (l : List Wire). l ++ []) (cut_out b v f)
  outside a (suc k) v f = ⊎_elim
      (λ (t : (m a ≡ true) × In a v). ap (flat_map (cut_at b)) (cuts m a k v t.0 t.1)
      ∙ (λ i. cut_out b (up_to a v) (λ h. f (h.0, omega (arith, h.1, t.1.1))) i ++ outside (suc a) k (from_on a v) (λ h. f (omega (arith, h.0, t.1.0), h.1)) i)
      ∙ sym (cuts m a k v t.0 t.1))
      (λ (n : m a ≡ true → In a v → ⊥). ap (flat_map (cut_at b)) (skips m a k v n) ∙ outside (suc a) k v f ∙ sym (skips m a k v n))
      (whether m a k v)

  -- nor does a mark at b
  unmarked : (a k : ℕ) (v : Wire) → (In b v → ⊥) → cut_from with_b a k v ≡ cut_from m a k v
  unfolding cut_from
  unmarked a zero v f = refl
  unmarked a (suc k) v f = ⊎_elim
      (λ (t : (m a ≡ true) × In a v). cuts with_b a k v (ap (λ (x : Bool). x || eqb b a) t.0) t.1
      ∙ ap (λ (l : List Wire). up_to a v ∷ l) (unmarked (suc a) k (from_on a v) (λ h. f (omega (arith, h.0, t.1.0), h.1))) ∙ sym (cuts m a k v t.0 t.1))
      (λ (n : m a ≡ true → In a v → ⊥). skips with_b a k v (λ e h. other n e h) ∙ unmarked (suc a) k v f ∙ sym (skips m a k v n))
      (whether m a k v)
    where
      other : (m a ≡ true → In a v → ⊥) → with_b a ≡ true → In a v → ⊥
      other n e h = ⊎_elim (λ (t : m a ≡ true). n t h) (λ (t : eqb b a ≡ true). f (subst (λ (c : ℕ). In c v) (sym (eqb-true b a t)) h)) (one_true (m a) (eqb b a) e)

  -- b stands before the places still to come: the part up to it comes off
  first_cut : (a k : ℕ) (v : Wire) → In b v → b < a → flat_map (cut_at b) (cut_from m a k v) ≡ up_to b v ∷ cut_from m a k (from_on b v)
  unfolding cut_from
  first_cut a zero v h l = ap (λ (r : List Wire). r ++ []) (cut_in b v h)
  first_cut a (suc k) v h l = ⊎_elim
      (λ (t : (m a ≡ true) × In a v). ap (flat_map (cut_at b)) (cuts m a k v t.0 t.1)
      ∙ (λ i. cut_in b (up_to a v) (h.0, l) i ++ outside (suc a) k (from_on a v) (λ g. omega (arith, g.0)) i)
      ∙ ap (λ (r : List Wire). up_to b v ∷ r) (sym (cuts m a k (from_on b v) t.0 (l, t.1.1))))
      (λ (n : m a ≡ true → In a v → ⊥). ap (flat_map (cut_at b)) (skips m a k v n) ∙ first_cut (suc a) k v h (omega arith)
      ∙ ap (λ (r : List Wire). up_to b v ∷ r) (sym (skips m a k (from_on b v) (λ e g. n e (omega (arith, h.0), g.1)))))
      (whether m a k v)

  -- b is the next place
  here_cut : (k : ℕ) (v : Wire) → In b v → flat_map (cut_at b) (cut_from m b (suc k) v) ≡ cut_from with_b b (suc k) v
  here_cut k v h = ⊎_elim
      (λ (t : (m b ≡ true) × In b v). ap (flat_map (cut_at b)) (cuts m b k v t.0 t.1) ∙ (λ i. cut_out b (up_to b v) (λ g. omega (arith, g.1)) i ++ outside (suc b) k (from_on b v) (λ g. omega (arith, g.0)) i))
      (λ (n : m b ≡ true → In b v → ⊥). ap (flat_map (cut_at b)) (skips m b k v n) ∙ first_cut (suc b) k v h (omega arith))
      (whether m b k v)
      ∙ sym (cuts with_b b k v (ap (λ (x : Bool). m b || x) (eq-eqb b b refl) ∙ or-true (m b)) h ∙ ap (λ (r : List Wire). up_to b v ∷ r) (unmarked (suc b) k (from_on b v) (λ g. omega (arith, g.0))))

  -- b comes later than the next place
  later_cut : (a k : ℕ) (v : Wire) → a < b → In b v
      → ((u : Wire) → In b u → flat_map (cut_at b) (cut_from m (suc a) k u) ≡ cut_from with_b (suc a) k u) → flat_map (cut_at b) (cut_from m a (suc k) v) ≡ cut_from with_b a (suc k) v
  later_cut a k v l h ih = ⊎_elim
      (λ (t : (m a ≡ true) × In a v). ap (flat_map (cut_at b)) (cuts m a k v t.0 t.1)
      ∙ (λ i. cut_out b (up_to a v) (λ g. omega (arith, g.1)) i ++ ih (from_on a v) (l, h.1) i)
      ∙ sym (cuts with_b a k v (ap (λ (x : Bool). x || eqb b a) t.0) t.1))
      (λ (n : m a ≡ true → In a v → ⊥). ap (flat_map (cut_at b)) (skips m a k v n) ∙ ih v h
      ∙ sym (skips with_b a k v (λ e g. ⊎_elim (λ (t : m a ≡ true). n t g) (λ (t : eqb b a ≡ true). let q = eqb-true b a t in omega arith) (one_true (m a) (eqb b a) e))))
      (whether m a k v)

  -- b is one of the places to come: it is marked
  next_cut : (a k : ℕ) (v : Wire) → In b v → a ≤ b → b < a + k → flat_map (cut_at b) (cut_from m a k v) ≡ cut_from with_b a k v
  next_cut a zero v h l g = absurd (omega arith)
  next_cut a (suc k) v h l g = ⊎_elim
      (λ (x : a < b). later_cut a k v x h (λ u i. next_cut (suc a) k u i (omega arith) (omega arith)))
      (⊎_elim (λ (e : a ≡ b). subst (λ (c : ℕ). flat_map (cut_at b) (cut_from m c (suc k) v) ≡ cut_from with_b c (suc k) v) (sym e) (here_cut k v h)) (λ (x : b < a). absurd (omega arith)))
      (compare a b)

  pub any_cut : (a k : ℕ) (v : Wire) → (In b v → (a ≤ b) × (b < a + k)) → flat_map (cut_at b) (cut_from m a k v) ≡ cut_from with_b a k v
  any_cut a k v f = ⊎_elim
      (λ (h : In b v). next_cut a k v h (f h).0 (f h).1)
      (λ (n : In b v → ⊥). outside a k v n ∙ sym (unmarked a k v n))
      (decide (within_reads b v))
