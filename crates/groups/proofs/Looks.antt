-- A reader that looks at so many bytes at most: what stands behind these makes no difference.
use mathlib.Core.Path.{◌≡◌, refl, sym, ap, subst, ◌∙◌}
use mathlib.Core.Bool.{Bool, true, false, cond}
use mathlib.Core.List.{List, [], ◌∷◌, ◌++◌}
use Prim.Native.Nat.{ℕ, zero, suc, ◌+◌, ◌*◌, ◌%◌, ◌≤◌}
use native.Mathlib.Omega.{arith}
use lib.Dec.{eqb, ltb, leb}
use lib.ListN.{length}
use Rattle.lists.proofs.Tests.{Reads, pass, fail, leb_reads, and_reads}
use Rattle.groups.specs.Taken.{Taken, took, refused, then, short, bad, if, times}
use Rattle.groups.specs.Groups.{above, later_groups, take_number, take_in}
use Rattle.groups.proofs.Told.{Told, told, not, ends, faulty, told_then, told_as}
use Rattle.groups.proofs.Codes.{Between}

-- with the bytes t behind
abbrev pub and : {A : Type 0} → List ℕ → Taken A → Taken A
and t (took a s) = took a (s ++ t)
and t (refused r) = refused r

-- of p it used at most k bytes, and left s
pub record Uses (k : ℕ) (p s : List ℕ) : Type 0 where
  pub most : length p ≤ k + length s

-- at most k bytes are looked at; what was read is right
pub record Within {A : Type 0} (k : ℕ) (Ok : A → Type 0) (f : List ℕ → Taken A) : Type 0 where
  pub same : (p t : List ℕ) → k ≤ length p → f (p ++ t) ≡ and t (f p)
  pub used : (p : List ℕ) → Told (λ a s. Ok a × Uses k p s) (f p)

abbrev pub Any : {A : Type 0} → A → Type 0
Any a = Unit

pub within_more : {A : Type 0} {k m : ℕ} {Ok : A → Type 0} {f : List ℕ → Taken A} → k ≤ m → Within k Ok f → Within m Ok f
within_more {k = k} {m = m} le w = record {
  same = λ p t h. w.same p t (omega arith);
  used = λ p. told_as (w.used p) (λ a s o. (o.0, record { most = omega (arith, o.1.most) }));
}

-- one reader behind the other
module _ {A B : Type 0} {k m : ℕ} {Ok : A → Type 0} {Fine : B → Type 0} {f : List ℕ → Taken A} {g : A → List ℕ → Taken B} (w : Within k Ok f) (v : (a : A) → Ok a → Within m Fine (g a)) where
  then_same : (p t : List ℕ) → k + m ≤ length p → then (f (p ++ t)) g ≡ and t (then (f p) g)
  unfolding then
  then_same p t h = ap (λ u. then u g) (w.same p t (omega arith)) ∙ go (w.used p)
    where
      go : {u : Taken A} → Told (λ a s. Ok a × Uses k p s) u → then (and t u) g ≡ and t (then u g)
      go (told {a} {s} o) = (v a o.0).same s t (omega (arith, o.1.most))
      go (not r) = refl

  then_used : (p : List ℕ) → Told (λ b s. Fine b × Uses (k + m) p s) (then (f p) g)
  then_used p = told_then (w.used p) (λ a s o. told_as ((v a o.0).used s) (λ b r q. (q.0, record { most = omega (arith, o.1.most, q.1.most) })))

  pub within_then : Within (k + m) Fine (λ s. then (f s) g)
  within_then = record { same = then_same; used = then_used }

-- a value at hand
pub within_took : {A : Type 0} {Ok : A → Type 0} (a : A) → Ok a → Within 0 Ok (took a)
within_took a ok = record { same = λ p t h. refl; used = λ p. told {s = p} (ok, record { most = omega arith }) }

-- n values, each of at most k bytes
pub within_times : {A : Type 0} {k : ℕ} {Ok : A → Type 0} {f : List ℕ → Taken A} → Within k Ok f → (n : ℕ) → Within (n * k) Any (times f n)
unfolding times
within_times w zero = within_more (omega arith) (within_took [] tt)
within_times {k = k} w (suc n) = within_more (omega arith) (within_then w (λ x o. within_then (within_times w n) (λ xs q. within_took (x ∷ xs) tt)))

-- a refusal
within_bad : {A : Type 0} {k : ℕ} {Ok : A → Type 0} → Within k Ok (λ s. bad)
within_bad = record { same = λ p t h. refl; used = λ p. not faulty }

-- the one or the other
pub within_cond : {A : Type 0} {k : ℕ} {Ok : A → Type 0} {f g : List ℕ → Taken A} (z : Bool) → Within k Ok f → Within k Ok g → Within k Ok (λ s. cond z (f s) (g s))
within_cond true v w = v
within_cond false v w = w

-- a value if it passes the test
pub within_if : {A P : Type 0} {Ok : A → Type 0} {z : Bool} (a : A) → Reads P z → (P → Ok a) → Within 0 Ok (if z a)
within_if a (pass p) ok = within_took a (ok p)
within_if a (fail n) ok = within_bad

-- a byte, and what is read behind it
module _ {A : Type 0} {k : ℕ} {Ok : A → Type 0} (f : List ℕ → Taken A) (g : ℕ → List ℕ → Taken A) (none : f [] ≡ short) (some : (b : ℕ) (s : List ℕ) → f (b ∷ s) ≡ g b s) (w : (b : ℕ) → Within k Ok (g b)) where
  byte_same : (p t : List ℕ) → suc k ≤ length p → f (p ++ t) ≡ and t (f p)
  byte_same [] t h = absurd (omega arith)
  byte_same (b ∷ p) t h = some b (p ++ t) ∙ (w b).same p t (omega arith) ∙ ap (and t) (sym (some b p))

  byte_used : (p : List ℕ) → Told (λ a s. Ok a × Uses (suc k) p s) (f p)
  byte_used [] = subst (Told _) (sym none) (not ends)
  byte_used (b ∷ p) = subst (Told _) (sym (some b p)) (told_as ((w b).used p) (λ a s o. (o.0, record { most = omega (arith, o.1.most) })))

  pub within_byte : Within (suc k) Ok f
  within_byte = record { same = byte_same; used = byte_used }

-- ---- numbers

within_above : {k : ℕ} {f : List ℕ → Taken ℕ} (low : ℕ) → Within k Any f → Within k Any (λ s. above low (f s))
within_above low w = within_more (omega arith) (within_then w (λ high o. within_took (low + 128 * high) tt))

within_later : (i : ℕ) → Within (suc i) Any (later_groups i)
unfolding later_groups
within_later zero = within_byte _ _ refl (λ b s. refl) (λ b. within_cond (eqb b 0) within_bad (within_cond (leb b 15) (within_took b tt) within_bad))
within_later (suc i) = within_byte _ _ refl (λ b s. refl) (λ b. within_cond (eqb b 0) within_bad (within_cond (ltb b 128) (within_more (omega arith) (within_took b tt)) (within_above (b % 128) (within_later i))))

within_number : Within 5 Any take_number
unfolding take_number
within_number = within_byte _ _ refl (λ b s. refl) (λ b. within_cond (ltb b 128) (within_more (omega arith) (within_took b tt)) (within_above (b % 128) (within_later 3)))

pub within_range : (low high : ℕ) → Within 5 (Between low high) (take_in low high)
unfolding take_in
within_range low high = within_then within_number (λ n o. within_if n (and_reads (leb_reads low n) (leb_reads n high)) (λ p. p))
