-- Below the calls: what a function that reads n rows from an index of some bytes answers.
use Rattle.std.specs.Prelude.{ℕ, ◌≤◌, ◌≡◌, List, length, drop, Result, MatchResult, IfOk}
use Rattle.std.specs.Borrow.{Bor}
use Rattle.refusal.specs.declared.Refusal.{Refusal}
use Rattle.refusal.specs.Numbers.{number_of}
use Rattle.groups.specs.Taken.{Taken, took, refused}
use Rattle.groups.specs.Indexes.{taken_at}

-- a is what is read of t, next the index behind it, and P holds of a
pub record Got {A : Type 0} (t : Taken A) (s : List ℕ) (next : ℕ) (P : A → Type 0) : Type 0 where
  pub value : A
  pub is : t ≡ took value (drop next s)
  pub inside : next ≤ length s
  pub so : P value

-- t is what is to be read of the bytes s: the value, of which P holds, and the index behind it, or a refusal
abbrev pub ReadAs : {A : Type 0} → Taken A → List ℕ → (A → Type 0) → Result ℕ Refusal → Type 0
ReadAs t s P r = MatchResult r (λ next. Got t s next P) (λ e. t ≡ refused (number_of e))

-- what is told of bytes at an index is what f takes from there on
abbrev pub Reads : {A : Type 0} → (Bor (List ℕ) → ℕ → Result (A × ℕ) Refusal → Type 0) → (List ℕ → Taken A) → Type 0
Reads {A} tells f = (p : Bor (List ℕ)) (at : ℕ) (r : Result (A × ℕ) Refusal) → tells p at r → (taken_at p.now r ≡ f (drop at p.now)) × IfOk r (λ b. b.1 ≤ length p.now)
