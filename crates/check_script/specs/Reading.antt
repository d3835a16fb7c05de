-- "Numbers and rows": what a line of a drawing says, as a function: `said_of` gives what the grammar says (proofs/Meaning.antt).
use Rattle.std.specs.Prelude.{Bool, true, false, cond, Option, Some, None, List, [], ◌∷◌, ℕ, ◌-◌, length, ℤ, pos, negsuc, leb, ltb, eqb}
use Rattle.edge.specs.Coordinates.{to_ℕ, biased}
use Rattle.script.specs.Grammar.{byte}
use Rattle.script.specs.Reading.{Front, found, missing, then, after_byte, field_of, ending}
use Rattle.check_script.specs.Saying.{Said, Wire, Component, Joint, WireCount, ComponentCount, JointCount, End, Unreadable}

-- ---- numbers that a row can hold

-- from −low to high
unfoldable pub fitted : ℕ → ℕ → ℤ → Bool
fitted low high (pos n) = leb n high
fitted low high (negsuc n) = ltb n low

-- a number from −low to high, as f has it
abbrev pub held_as : {A : Type 0} → ℕ → ℕ → (ℤ → A) → ℤ → Option A
held_as low high f z = cond (fitted low high z) (Some (f z)) None

-- a space and such a number, as f has it
unfoldable pub fitted_field : {A : Type 0} → ℕ → ℕ → (ℤ → A) → List ℕ → Front A
fitted_field low high f s = then (field_of s) (λ z t. cond (fitted low high z) (found (f z) t) missing) missing

-- a coordinate: 6,000 more, in 16 bits
abbrev pub coordinate_of : List ℕ → Front ℕ
coordinate_of s = fitted_field 6000 59535 biased s

-- a number of 16 bits
abbrev pub natural_of : List ℕ → Front ℕ
natural_of s = fitted_field 0 65535 to_ℕ s

-- a number of 8 bits
abbrev pub byte_of : List ℕ → Front ℕ
byte_of s = fitted_field 0 255 to_ℕ s

-- ---- rows

-- `h` or `v`: whether the wire is vertical
unfoldable pub vertical_of : List ℕ → Front Bool
vertical_of s = after_byte (byte "h") s (found false) (after_byte (byte "v") s (found true) missing)

-- a space and such a letter
unfoldable pub direction_of : List ℕ → Front Bool
direction_of s = after_byte (byte " ") s vertical_of missing

-- a wire's row, behind its letter; `back`: it stands behind the counts
unfoldable pub wire_of : Bool → List ℕ → Said
wire_of back s =
    then (direction_of s) (λ v s. then (coordinate_of s) (λ l s. then (coordinate_of s) (λ a s. then (coordinate_of s) (λ e.
    ending Unreadable (Wire back (record { vertical = v; line = l; start = a; end = e })))
    Unreadable) Unreadable) Unreadable) Unreadable

-- a joint's row, behind its letter
unfoldable pub joint_of : Bool → List ℕ → Said
joint_of back s =
    then (coordinate_of s) (λ x s. then (coordinate_of s) (λ y s. then (natural_of s) (λ n.
    ending Unreadable (Joint back (record { x = x; y = y; count = n })))
    Unreadable) Unreadable) Unreadable

-- where the label begins in a line of n bytes: at its end, or behind a space; at most 16 bytes
unfoldable pub labelled_row : ℕ → (ℕ → Said) → List ℕ → Said
labelled_row n f [] = f n
labelled_row n f (b ∷ []) = Unreadable
labelled_row n f (b ∷ c ∷ s) = cond (eqb b (byte " ")) (cond (leb (length (c ∷ s)) 16) (f (n - length (c ∷ s))) Unreadable) Unreadable

-- a component's position and label
unfoldable pub stands_of : ℕ → (ℕ → ℕ → ℕ → Said) → List ℕ → Said
stands_of n f s = then (coordinate_of s) (λ x s. then (coordinate_of s) (λ y. labelled_row n (f x y)) Unreadable) Unreadable

-- a component's row, behind its letter
unfoldable pub component_of : ℕ → Bool → List ℕ → Said
component_of n back s =
    then (byte_of s) (λ kind s. then (byte_of s) (λ o. stands_of n (Component back kind o)) Unreadable) Unreadable

-- a row's line of n bytes, by its letter
unfoldable pub row_of : ℕ → Bool → List ℕ → Said
row_of n back s =
    after_byte (byte "W") s (wire_of back) (after_byte (byte "C") s (component_of n back) (after_byte (byte "J") s (joint_of back) Unreadable))

-- ---- counts told outright

-- the count n of the table that a letter names
unfoldable pub counted_of : ℕ → ℤ → Said
counted_of letter (negsuc n) = Unreadable
counted_of letter (pos n) =
    cond (eqb letter (byte "w")) (WireCount n)
    (cond (eqb letter (byte "c")) (ComponentCount n)
    (cond (eqb letter (byte "j")) (JointCount n)
    Unreadable))

-- behind the `#`: a space, a letter and a number that is not negative
unfoldable pub count_of : List ℕ → Said
count_of [] = Unreadable
count_of (b ∷ []) = Unreadable
count_of (b ∷ l ∷ s) = cond (eqb b (byte " ")) (then (field_of s) (λ z. ending Unreadable (counted_of l z)) Unreadable) Unreadable

-- ---- a line

-- a line of any form: `Z` and a row, `#` and a count, `.`, or a row
unfoldable pub line_said : List ℕ → Said
line_said s =
    after_byte (byte "Z") s (λ t. after_byte (byte " ") t (row_of (length s) true) Unreadable)
    (after_byte (byte "#") s count_of
    (after_byte (byte ".") s (ending Unreadable End)
    (row_of (length s) false s)))

-- at most 80 bytes, and of any form
unfoldable pub said_of : List ℕ → Said
said_of s = cond (leb (length s) 80) (line_said s) Unreadable
