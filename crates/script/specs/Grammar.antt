-- The lines of a panel script, built from their parts as document 01 has them under "panel_list". A line is a list of bytes, without
-- its newline. `Says` is the definition: which command a line says.
use Rattle.std.specs.Prelude.{◌≡◌, List, [], ◌∷◌, ◌++◌, ℕ, ◌+◌, ◌-◌, ◌*◌, ◌≤◌, length, ℤ, pos, neg_ℤ}
use Prim.Native.Char.{Char, code}
use Prim.Native.String.{String, [] as no_more, ◌∷◌ as ◌then◌}
use Rattle.script.specs.Commands.{Command, Horizontal, Vertical, Place, Delete, Turn, Mirror, Nets, Unreadable}

-- a character as a byte
abbrev pub byte : Char → ℕ
byte c = code c

-- a text as bytes
abbrev pub bytes : String → List ℕ
bytes no_more = []
bytes (◌then◌ c s) = byte c ∷ bytes s

-- digits; "numbers are an optional minus and 1 to 6 digits"
pub data Digits : List ℕ → Type 0 where
  none : Digits []
  more : {d : ℕ} {ds : List ℕ} → byte "0" ≤ d → d ≤ byte "9" → Digits ds → Digits (d ∷ ds)

-- the value of digits that stand behind others, whose value is v
unfoldable pub value_of : ℕ → List ℕ → ℕ
value_of v [] = v
value_of v (d ∷ ds) = value_of (v * 10 + (d - byte "0")) ds

-- 1 to 6 digits of the value v
pub record IsWhole (ds : List ℕ) (v : ℕ) : Type 0 where
  pub digits : Digits ds
  pub least : 1 ≤ length ds
  pub most : length ds ≤ 6
  pub value : value_of 0 ds ≡ v

-- these, or a minus and these
pub data IsNumber : List ℕ → ℤ → Type 0 where
  plain : {ds : List ℕ} {v : ℕ} → IsWhole ds v → IsNumber ds (pos v)
  minus : {ds : List ℕ} {v : ℕ} → IsWhole ds v → IsNumber (byte "-" ∷ ds) (neg_ℤ (pos v))

-- "single spaces": one space between a part of a line and what follows it
infixr 60 ◌␣◌
abbrev pub ◌␣◌ : List ℕ → List ℕ → List ℕ
a ␣ b = a ++ (byte " " ∷ b)

-- the lines of a letter and three numbers: `h Y X1 X2`, `v X Y1 Y2`, `d X Y SIZE`, `r X Y SIZE`, `m X Y SIZE`
pub data Letter : Char → (ℤ → ℤ → ℤ → Command) → Type 0 where
  horizontal : Letter "h" Horizontal
  vertical : Letter "v" Vertical
  delete : Letter "d" Delete
  turn : Letter "r" Turn
  mirror : Letter "m" Mirror

-- what stands behind the numbers of a `p` line, and its label: "optionally one space and a label (the rest of the line, at least one
-- byte ..)"
pub data HasLabel : List ℕ → List ℕ → Type 0 where
  none : HasLabel [] []
  some : {b : ℕ} {bs : List ℕ} → HasLabel (byte " " ∷ b ∷ bs) (b ∷ bs)

-- the readable lines, but for their length; the label of a `p` line begins at the index `at`
pub data IsLine (s : List ℕ) : Command → Type 0 where
  three : {l : Char} {f : ℤ → ℤ → ℤ → Command} {A B C : List ℕ} {a b c : ℤ}
      → Letter l f → IsNumber A a → IsNumber B b → IsNumber C c → s ≡ (byte l ∷ []) ␣ A ␣ B ␣ C
      → IsLine s (f a b c)
  place : {KIND ORIENT X Y rest label : List ℕ} {kind orient x y : ℤ} {at : ℕ}
      → IsNumber KIND kind → IsNumber ORIENT orient → IsNumber X x → IsNumber Y y → HasLabel rest label
      → s ≡ bytes "p" ␣ KIND ␣ ORIENT ␣ X ␣ Y ++ rest → at + length label ≡ length s
      → IsLine s (Place kind orient x y at)
  nets : s ≡ bytes "n" → IsLine s Nets

-- "a line is at most 80 bytes without its newline, and a longer one is one unreadable line"; so is one of no other form
pub data Says (s : List ℕ) : Command → Type 0 where
  readable : {k : Command} → length s ≤ 80 → IsLine s k → Says s k
  unreadable : ((k : Command) → length s ≤ 80 → IsLine s k → ⊥) → Says s Unreadable
