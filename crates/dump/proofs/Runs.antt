-- Runs of bytes, one behind the other, each with the number that it has at most.
use mathlib.Core.List.{List, [], ◌∷◌, ◌++◌}
use Prim.Native.Nat.{ℕ, ◌+◌, ◌*◌, ◌≤◌}
use mathlib.Core.Path.{◌≡◌, ap}
use native.Mathlib.Nat.{mul-le-mul_left}
use native.Mathlib.Omega.{arith}
use Rattle.std.specs.List.{flat_map}
use lib.ListN.{length, length-append}
use Rattle.text.specs.Text.{Put}
use Rattle.text.proofs.Puts.{put_then, put_as}
use Rattle.dump.specs.Rows.{Puts}

pub puts_byte : {a c : List ℕ} {b i j : ℕ} → Put a i (b ∷ []) c j → Puts 1 a i (b ∷ []) c j
puts_byte p = record { put = p; short = omega arith }

pub puts_short : {a c xs : List ℕ} {n i j : ℕ} → length xs ≤ n → Put a i xs c j → Puts n a i xs c j
puts_short h p = record { put = p; short = h }

pub puts_then : {a b c xs ys : List ℕ} {m n i j k : ℕ} → Puts m a i xs b j → Puts n b j ys c k → Puts (m + n) a i (xs ++ ys) c k
puts_then {a} {b} {c} {xs} {ys} p q = record { put = put_then p.put q.put; short = omega (arith, p.short, q.short, length-append xs ys) }

-- the lines of at most k rows, known by another name
pub puts_rows : {A : Type 0} (line : A → List ℕ) {a c : List ℕ} (m : ℕ) {i j : ℕ} {xs ys : List A} (k : ℕ) → Puts (m * length xs) a i (flat_map line xs) c j → xs ≡ ys → length ys ≤ k → Puts (m * k) a i (flat_map line ys) c j
puts_rows line m {xs = xs} {ys = ys} k p e h = record { put = put_as (ap (flat_map line) e) p.put; short = let n : m * length ys ≤ m * k = mul-le-mul_left m h in omega (arith, p.short, n, ap (λ l. length (flat_map line l)) e, ap (λ l. m * length l) e) }
