-- The command of a line, as a function ("panel_list .. reads a script on standard input: lines"): `command_of` gives what the grammar says
-- (proofs/Meaning.antt).
use Rattle.std.specs.Prelude.{Bool, true, false, cond, ◌&&◌, List, [], ◌∷◌, ℕ, zero, suc, ◌+◌, ◌-◌, ◌*◌, length, ℤ, pos, neg_ℤ, leb, eqb}
use Rattle.script.specs.Commands.{Command, Horizontal, Vertical, Place, Delete, Turn, Mirror, Nets, Unreadable}
use Rattle.script.specs.Grammar.{byte}

-- what stands at the front of a text: a value, and the text behind it; or no such thing
pub data Front (A : Type 0) : Type 0 where
  found : A → List ℕ → Front A
  missing : Front A

-- go on with the value and the text behind it; or else e
abbrev pub then : {A B : Type 0} → Front A → (A → List ℕ → B) → B → B
then (found a s) f e = f a s
then missing f e = e

-- go on with the text behind the byte b; or else e
abbrev pub after_byte : {B : Type 0} → ℕ → List ℕ → (List ℕ → B) → B → B
after_byte b [] f e = e
after_byte b (c ∷ s) f e = cond (eqb c b) (f s) e

-- `0` to `9`
abbrev pub is_digit : ℕ → Bool
is_digit b = leb (byte "0") b && leb b (byte "9")

-- at most n digits, behind others whose value is v
unfoldable pub digits_of : ℕ → ℕ → List ℕ → Front ℕ
digits_of zero v s = found v s
digits_of (suc n) v [] = found v []
digits_of (suc n) v (b ∷ s) = cond (is_digit b) (digits_of n (v * 10 + (b - byte "0")) s) (found v (b ∷ s))

-- 1 to 6 digits: one, and at most five more
unfoldable pub whole_of : List ℕ → Front ℕ
whole_of [] = missing
whole_of (b ∷ s) = cond (is_digit b) (digits_of 5 (b - byte "0") s) missing

-- v, with a minus or not
abbrev pub with_sign : Bool → ℕ → ℤ
with_sign true v = neg_ℤ (pos v)
with_sign false v = pos v

-- 1 to 6 digits, behind a minus or not
unfoldable pub signed_numeral : Bool → List ℕ → Front ℤ
signed_numeral minus s = then (whole_of s) (λ v. found (with_sign minus v)) missing

-- an optional minus and 1 to 6 digits
unfoldable pub numeral_of : List ℕ → Front ℤ
numeral_of s = after_byte (byte "-") s (signed_numeral true) (signed_numeral false s)

-- a space and a number
unfoldable pub field_of : List ℕ → Front ℤ
field_of s = after_byte (byte " ") s numeral_of missing

-- three of these
unfoldable pub three_of : List ℕ → Front (ℤ × ℤ × ℤ)
three_of s =
    then (field_of s) (λ a s. then (field_of s) (λ b s. then (field_of s) (λ c. found (a, b, c)) missing) missing) missing

-- k, where the line ends here; or else e
abbrev pub ending : {A : Type 0} → A → A → List ℕ → A
ending e k [] = k
ending e k (b ∷ s) = e

-- a line of a letter and three numbers: `h`, `v`, `d`, `r`, `m`
unfoldable pub lettered : ℕ → ℤ → ℤ → ℤ → Command
lettered letter a b c =
    cond (eqb letter (byte "h")) (Horizontal a b c)
    (cond (eqb letter (byte "v")) (Vertical a b c)
    (cond (eqb letter (byte "d")) (Delete a b c)
    (cond (eqb letter (byte "r")) (Turn a b c)
    (cond (eqb letter (byte "m")) (Mirror a b c)
    Unreadable))))

-- a letter, three numbers, and the end
unfoldable pub three_line : ℕ → List ℕ → Command
three_line letter s = then (three_of s) (λ t. ending Unreadable (lettered letter t.0 t.1 t.2)) Unreadable

-- a line `p` of n bytes, whose label begins at its end, or behind a space if a byte follows
unfoldable pub labelled : ℕ → (ℕ → Command) → List ℕ → Command
labelled n f [] = f n
labelled n f (b ∷ []) = Unreadable
labelled n f (b ∷ c ∷ s) = cond (eqb b (byte " ")) (f (n - length (c ∷ s))) Unreadable

-- `p KIND ORIENT X Y` "with optionally one space and a label"
unfoldable pub place_line : ℕ → List ℕ → Command
place_line n s =
    then (three_of s) (λ t s. then (field_of s) (λ y. labelled n (Place t.0 t.1 t.2 y)) Unreadable) Unreadable

-- a line of any form, by its first byte
unfoldable pub line_of : List ℕ → Command
line_of [] = Unreadable
line_of (b ∷ s) =
    cond (eqb b (byte "p")) (place_line (length (b ∷ s)) s) (cond (eqb b (byte "n")) (ending Unreadable Nets s) (three_line b s))

-- at most 80 bytes, and of any form
unfoldable pub command_of : List ℕ → Command
command_of s = cond (leb (length s) 80) (line_of s) Unreadable
