-- What holds of a value that was read and of the bytes behind it; a refusal is 12, 13 or 14.
use mathlib.Core.Path.{◌≡◌, subst}
use mathlib.Core.Bool.{Bool}
use mathlib.Core.List.{List}
use Prim.Native.Nat.{ℕ}
use native.Mathlib.Omega.{arith}
use Rattle.lists.proofs.Tests.{Reads, pass, fail}
use Rattle.groups.specs.Taken.{Taken, took, refused, then, if}

pub data Refusal : ℕ → Type 0 where
  ends : Refusal 12
  faulty : Refusal 13
  longer : Refusal 14

pub data Told {A : Type 0} (Q : A → List ℕ → Type 0) : Taken A → Type 0 where
  told : {a : A} {s : List ℕ} → Q a s → Told Q (took a s)
  not : {r : ℕ} → Refusal r → Told Q (refused r)

pub told_then : {A B : Type 0} {Q : A → List ℕ → Type 0} {R : B → List ℕ → Type 0} {t : Taken A} {f : A → List ℕ → Taken B} → Told Q t → ((a : A) (s : List ℕ) → Q a s → Told R (f a s)) → Told R (then t f)
unfolding then
told_then (told {a} {s} q) g = g a s q
told_then (not r) g = not r

pub told_as : {A : Type 0} {Q R : A → List ℕ → Type 0} {t : Taken A} → Told Q t → ((a : A) (s : List ℕ) → Q a s → R a s) → Told R t
told_as (told {a} {s} q) g = told (g a s q)
told_as (not r) g = not r

pub told_if : {A P : Type 0} {Q : A → List ℕ → Type 0} {b : Bool} (a : A) (s : List ℕ) → Reads P b → (P → Q a s) → Told Q (if b a s)
told_if a s (pass p) h = told (h p)
told_if a s (fail f) h = not faulty

-- what was read is told of
pub out : {A : Type 0} {Q : A → List ℕ → Type 0} {t : Taken A} {a : A} {s : List ℕ} → Told Q t → t ≡ took a s → Q a s
out {Q = Q} {a = a} {s = s} (told {a = b} {s = r} q) e = let x : b ≡ a = cc in let y : r ≡ s = cc in subst (λ u. Q a u) y (subst (λ u. Q u r) x q)
out (not r) e = absurd (let z : ◌≡◌ {A = ℕ} 0 1 = cc in omega arith)
