-- The lines of an input, as document 01 has them under "panel_list": it is cut at each newline, and "a last line without a newline
-- counts if not empty".
use Rattle.std.specs.Prelude.{◌≡◌, cond, List, [], ◌∷◌, ◌++◌, ℕ, ◌≤◌, length, eqb}
use Prim.Native.Char.{code}

-- the byte that ends a line
abbrev pub newline : ℕ
newline = code "\n"

-- bytes with no newline among them
pub data OneLine : List ℕ → Type 0 where
  none : OneLine []
  more : {b : ℕ} {l : List ℕ} → (b ≡ newline → ⊥) → OneLine l → OneLine (b ∷ l)

-- the input and its lines
pub data AreLines : List ℕ → List (List ℕ) → Type 0 where
  nothing : AreLines [] []
  last : {l : List ℕ} → OneLine l → 1 ≤ length l → AreLines l (l ∷ [])
  line : {l s input : List ℕ} {ls : List (List ℕ)} → OneLine l → input ≡ l ++ (newline ∷ s) → AreLines s ls → AreLines input (l ∷ ls)

-- the same as a function: the lines of `s`, behind the bytes `begun` of a line
unfoldable pub lines_from : List ℕ → List ℕ → List (List ℕ)
lines_from [] [] = []
lines_from (c ∷ begun) [] = (c ∷ begun) ∷ []
lines_from begun (b ∷ s) = cond (eqb b newline) (begun ∷ lines_from [] s) (lines_from (begun ++ (b ∷ [])) s)

-- the lines of an input
unfoldable pub lines_of : List ℕ → List (List ℕ)
lines_of s = lines_from [] s
