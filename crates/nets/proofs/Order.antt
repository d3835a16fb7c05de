-- Numbers given in order are told by which places have one number and which have 0.
use mathlib.Core.Path.{◌≡◌, refl, sym, ap, ap₂}
use mathlib.Core.Logic.{◌↔◌, ⊎_elim}
use mathlib.Core.List.{List, ◌∷◌}
use Prim.Native.Nat.{ℕ, zero, suc, ◌+◌, ◌≤◌, zero-le}
use native.Mathlib.Omega.{arith}
use lib.ListN.{length, get_or}
use Rattle.lists.proofs.Tests.{decide, leb_reads}
use Rattle.nets.specs.Nets.{At, first, later, InOrder, done, old, new}

-- the same places have the number a
pub record Alike (ns ms : List ℕ) (a : ℕ) : Type 0 where
  pub at : {i n m : ℕ} → At ns i n → At ms i m → (n ≡ a) ↔ (m ≡ a)

-- the same pairs of places have one number
pub record AllAlike (ns ms : List ℕ) : Type 0 where
  pub at : {i j n m n' m' : ℕ} → At ns i n → At ms i m → At ns j n' → At ms j m' → (n ≡ n') ↔ (m ≡ m')

alike_rest : {ns ms : List ℕ} {n m a : ℕ} → Alike (n ∷ ns) (m ∷ ms) a → Alike ns ms a
alike_rest h = record { at = λ s t. h.at (later s) (later t) }

all_rest : {ns ms : List ℕ} {n m : ℕ} → AllAlike (n ∷ ns) (m ∷ ms) → AllAlike ns ms
all_rest h = record { at = λ s t s' t'. h.at (later s) (later t) (later s') (later t') }

-- the first number is told where it was given before
head_old : {ns ms : List ℕ} {n m k : ℕ} → ((a : ℕ) → a ≤ k → Alike (n ∷ ns) (m ∷ ms) a) → n ≤ k → m ≡ n
head_old {n = n} given h = ((given n h).at first first).0 refl

head_old' : {ns ms : List ℕ} {n m k : ℕ} → ((a : ℕ) → a ≤ k → Alike (n ∷ ns) (m ∷ ms) a) → m ≤ k → n ≡ m
head_old' {m = m} given h = ((given m h).at first first).1 refl

-- after the next number that one too is told
given_next : {ns ms : List ℕ} {k : ℕ} → ((a : ℕ) → a ≤ k → Alike (suc k ∷ ns) (suc k ∷ ms) a) → AllAlike (suc k ∷ ns) (suc k ∷ ms) → (a : ℕ) → a ≤ suc k → Alike ns ms a
given_next {ns} {ms} {k} given all a h = ⊎_elim
    (λ (le : a ≤ k). alike_rest (given a le))
    (λ (n : a ≤ k → ⊥). let e : a ≡ suc k = omega (arith, n) in rw e (record { at = λ s t. all.at (later s) (later t) first first }))
    (decide (leb_reads a k))

pub order_told : {k : ℕ} {ns ms : List ℕ} → InOrder k ns → InOrder k ms → length ns ≡ length ms → ((a : ℕ) → a ≤ k → Alike ns ms a) → AllAlike ns ms → ns ≡ ms
order_told done done len given all = refl
order_told done (old h s) len given all = absurd (omega arith)
order_told done (new s) len given all = absurd (omega arith)
order_told (old h r) done len given all = absurd (omega arith)
order_told (new r) done len given all = absurd (omega arith)
order_told (old h r) (old h' s) len given all =
    ap₂ ◌∷◌ (sym (head_old given h)) (order_told r s (omega arith) (λ a le. alike_rest (given a le)) (all_rest all))
order_told (old h r) (new s) len given all = absurd (omega (arith, head_old given h))
order_told (new r) (old h' s) len given all = absurd (omega (arith, head_old' given h'))
order_told {k} (new {ns = ns} r) (new {ns = ms} s) len given all = ap (λ l. suc k ∷ l) (order_told r s (omega arith) (given_next given all) (all_rest all))

-- no number is above how many there are
pub order_low : {k : ℕ} {ns : List ℕ} → InOrder k ns → (i : ℕ) → get_or ns i 0 ≤ k + length ns
order_low done i = zero-le
order_low (old h r) zero = omega arith
order_low (old h r) (suc i) = omega (arith, order_low r i)
order_low (new r) zero = omega arith
order_low (new r) (suc i) = omega (arith, order_low r i)
