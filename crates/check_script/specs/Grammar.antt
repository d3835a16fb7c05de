-- The lines of a drawing, built from their parts ("Numbers and rows"). A line is a list of bytes, without its newline. `IsSaid` is the
-- definition: what a line says.
use Rattle.std.specs.Prelude.{◌≡◌, Bool, true, false, List, [], ◌∷◌, ◌++◌, ℕ, ◌+◌, ◌≤◌, length, ℤ, pos}
use Prim.Native.Char.{Char}
use Rattle.edge.specs.Coordinates.{to_ℕ, biased}
use Rattle.script.specs.Grammar.{byte, bytes, IsNumber, ◌␣◌, HasLabel}
use Rattle.check_script.specs.Saying.{Said, Wire, Component, Joint, End, Unreadable}
use Rattle.check_script.specs.Counts.{Table}
use Rattle.check_script.specs.Reading.{fitted}

-- a number from −low to high, as f has it
pub data IsHeld {A : Type 0} (low high : ℕ) (f : ℤ → A) : List ℕ → A → Type 0 where
  holds : {t : List ℕ} {z : ℤ} → IsNumber t z → fitted low high z ≡ true → IsHeld low high f t (f z)

-- a coordinate: 6,000 more, in 16 bits
abbrev pub IsCoordinate : List ℕ → ℕ → Type 0
IsCoordinate t n = IsHeld 6000 59535 biased t n

-- a number of 16 bits
abbrev pub IsNatural : List ℕ → ℕ → Type 0
IsNatural t n = IsHeld 0 65535 to_ℕ t n

-- a number of 8 bits
abbrev pub IsByte : List ℕ → ℕ → Type 0
IsByte t n = IsHeld 0 255 to_ℕ t n

-- "Direction of a wire: a yes or no, no for horizontal"
pub data IsDirection : Char → Bool → Type 0 where
  horizontal : IsDirection "h" false
  vertical : IsDirection "v" true

-- the rows: `W h LINE START END`, `C KIND ORIENT X Y` with a label or not, `J X Y COUNT`. `back`: the row stands behind the counts. The
-- label begins at the index `at` of a line of n bytes.
pub data IsRow (n : ℕ) (back : Bool) (s : List ℕ) : Said → Type 0 where
  wire : {d : Char} {v : Bool} {LINE START END : List ℕ} {l a e : ℕ}
      → IsDirection d v → IsCoordinate LINE l → IsCoordinate START a → IsCoordinate END e → s ≡ bytes "W" ␣ (byte d ∷ []) ␣ LINE ␣ START ␣ END
      → IsRow n back s (Wire back (record { vertical = v; line = l; start = a; end = e }))
  component : {KIND ORIENT X Y rest label : List ℕ} {kind o x y at : ℕ}
      → IsByte KIND kind → IsByte ORIENT o → IsCoordinate X x → IsCoordinate Y y
      → HasLabel rest label → length label ≤ 16 → s ≡ bytes "C" ␣ KIND ␣ ORIENT ␣ X ␣ Y ++ rest → at + length label ≡ n
      → IsRow n back s (Component back kind o x y at)
  joint : {X Y COUNT : List ℕ} {x y c : ℕ}
      → IsCoordinate X x → IsCoordinate Y y → IsNatural COUNT c → s ≡ bytes "J" ␣ X ␣ Y ␣ COUNT
      → IsRow n back s (Joint back (record { x = x; y = y; count = c }))

-- the readable lines, but for their length
pub data IsDrawingLine (s : List ℕ) : Said → Type 0 where
  row : {k : Said} → IsRow (length s) false s k → IsDrawingLine s k
  behind : {t : List ℕ} {k : Said} → s ≡ bytes "Z" ␣ t → IsRow (length s) true t k → IsDrawingLine s k
  count : {l : Char} {f : ℕ → Said} {N : List ℕ} {n : ℕ} → Table l f → IsNumber N (pos n) → s ≡ bytes "#" ␣ (byte l ∷ []) ␣ N → IsDrawingLine s (f n)
  end : s ≡ bytes "." → IsDrawingLine s End

-- at most 80 bytes; a line of no such form is unreadable
pub data IsSaid (s : List ℕ) : Said → Type 0 where
  readable : {k : Said} → length s ≤ 80 → IsDrawingLine s k → IsSaid s k
  unreadable : ((k : Said) → length s ≤ 80 → IsDrawingLine s k → ⊥) → IsSaid s Unreadable
