-- An input that comes in chunks, and the line that has begun, of which at most 81 bytes are held: "a line is at most 80 bytes without its
-- newline, and a longer one is one unreadable line".
use Rattle.std.specs.Prelude.{◌≡◌, cond, List, [], ◌∷◌, ◌++◌, ℕ, ◌<◌, ◌≤◌, length, take, drop, ltb, eqb}
use Rattle.lines.specs.declared.Cut.{Cut}
use Rattle.lines.specs.declared.Cut.TheVariants.{Line, More}
use Rattle.lines.specs.Lines.{newline}

-- a byte more of the line that has begun
unfoldable pub hold : List ℕ → ℕ → List ℕ
hold held b = cond (ltb (length held) 81) (held ++ (b ∷ [])) held

-- what a chunk brings: a whole line, and what is left of the chunk; or the line goes on
pub data Brought : Type 0 where
  line : List ℕ → List ℕ → Brought
  more : List ℕ → Brought

-- what a chunk brings, behind the bytes held
unfoldable pub bring : List ℕ → List ℕ → Brought
bring held [] = more held
bring held (b ∷ s) = cond (eqb b newline) (line held s) (bring (hold held b) s)

-- what an answer of `next_line` says, with the bytes held and the chunk
abbrev pub brought : Cut → List ℕ → List ℕ → Brought
brought (Line count next) held chunk = line (take count held) (drop next chunk)
brought (More count) held chunk = more (take count held)

-- its numbers: at most 81 bytes are held, and behind a line the chunk of n bytes goes on further than at `at`
abbrev pub CutFits : ℕ → ℕ → Cut → Type 0
CutFits at n (Line count next) = (count ≤ 81) × (at < next) × (next ≤ n)
CutFits at n (More count) = count ≤ 81

-- the answer r of `next_line` at `at` of a chunk, behind the first `count` bytes held, which leaves held'
pub record Next (chunk : List ℕ) (at : ℕ) (held : List ℕ) (count : ℕ) (r : Cut) (held' : List ℕ) : Type 0 where
  pub told : brought r held' chunk ≡ bring (take count held) (drop at chunk)
  pub within : CutFits at (length chunk) r
  pub long : length held' ≡ length held
