-- The sum of bytes, which stands for the bytes that were handed to the system: each byte moves the sum of all that were before it.
use Rattle.std.specs.Prelude.{List, [], ◌∷◌, ℕ, ◌+◌, ◌*◌, ◌%◌}

-- a byte more
unfoldable pub next_sum : ℕ → ℕ → ℕ
next_sum sum b = (sum * 257 + b + 1) % 4294967291

-- bytes more, one behind the other
unfoldable pub sum_of : ℕ → List ℕ → ℕ
sum_of sum [] = sum
sum_of sum (b ∷ bs) = sum_of (next_sum sum b) bs
