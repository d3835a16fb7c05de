-- Bytes put into a buffer, of which "bytes behind it stay", and numbers in decimal.
use Rattle.std.specs.Prelude.{◌≡◌, cond, List, [], ◌∷◌, ◌++◌, ℕ, zero, suc, ◌+◌, ◌/◌, ◌%◌, ◌≤◌, ltb, ℤ, pos, negsuc, length}
use Rattle.std.proofs.lemmas.List.Edits.{sets}

-- `new` is `old` with the bytes `bs` from index `at` on, what falls behind its end left out; `next` is the index behind them, whether or
-- not they fit
pub record Put (old : List ℕ) (at : ℕ) (bs new : List ℕ) (next : ℕ) : Type 0 where
  pub bytes : new ≡ sets old at bs
  pub behind : next ≡ at + length bs

-- so many bytes from an index on end at most at a million
abbrev pub Space : ℕ → ℕ → Type 0
Space at most = at + most ≤ 1000000

-- and so do the bytes bs
abbrev pub Room : ℕ → List ℕ → Type 0
Room at bs = Space at (length bs)

-- the digits of n, up to k and one
unfoldable pub digits_in : ℕ → ℕ → List ℕ
digits_in zero n = (48 + n) ∷ []
digits_in (suc k) n = cond (ltb n 10) ((48 + n) ∷ []) (digits_in k (n / 10) ++ ((48 + n % 10) ∷ []))

-- n in decimal: `0` for 0, and no zero in front of any other. (No number has more than n + 1 digits.)
unfoldable pub decimal_of : ℕ → List ℕ
decimal_of n = digits_in n n

-- a number with its sign: a minus before a negative one
unfoldable pub signed_of : ℤ → List ℕ
signed_of (pos n) = decimal_of n
signed_of (negsuc n) = 45 ∷ decimal_of (suc n)
