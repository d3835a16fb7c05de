-- "reads a script on standard input": a state taken through the lines of an input, by any step over any type of states: by the lines at
-- once, and chunk by chunk.
use Rattle.std.specs.Prelude.{cond, List, [], ◌∷◌, ◌++◌, ℕ, eqb}
use Rattle.lines.specs.Lines.{newline}
use Rattle.lines.specs.Chunks.{hold}

-- the state, and the bytes held of the line that has begun
pub data Ran (S : Type 0) : Type 0 where
  ran : S → List ℕ → Ran S

-- the input of which these are the chunks
unfoldable pub joined : List (List ℕ) → List ℕ
joined [] = []
joined (s ∷ ss) = s ++ joined ss

module _ {S : Type 0} (step : S → List ℕ → S) where
  -- the lines one after the other
  unfoldable pub through : S → List (List ℕ) → S
  through x [] = x
  through x (l ∷ ls) = through (step x l) ls

  -- a chunk, behind the bytes held
  unfoldable pub through_chunk : S → List ℕ → List ℕ → Ran S
  through_chunk x held [] = ran x held
  through_chunk x held (b ∷ s) = cond (eqb b newline) (through_chunk (step x held) [] s) (through_chunk x (hold held b) s)

  -- a chunk more
  abbrev pub next : Ran S → List ℕ → Ran S
  next (ran x held) s = through_chunk x held s

  -- the chunks one after the other
  unfoldable pub chunks : Ran S → List (List ℕ) → Ran S
  chunks r [] = r
  chunks r (s ∷ ss) = chunks (next r s) ss

  -- the end of the input: a line without a newline counts if it is not empty
  abbrev pub finish : Ran S → S
  finish (ran x []) = x
  finish (ran x (b ∷ held)) = step x (b ∷ held)
