-- Labels: as a caller gives them, as rows hold them, and as they come back.
use Rattle.std.specs.Prelude.{ℕ, zero, suc, Bool, true, false, not, ◌&&◌, cond, List, [], ◌∷◌, leb, eqb, length, take, Result}
use Rattle.std.specs.List.{list_all, take_while}
use Rattle.label.specs.declared.Label.{Label}
use Rattle.refusal.specs.declared.Refusal.{Refusal}
use Rattle.refusal.specs.Numbers.{answered}

-- "each 0x21 to 0x7E"
abbrev pub graphic : ℕ → Bool
graphic b = leb 0x21 b && leb b 0x7e

-- the first n bytes, with zeros behind where there are fewer
unfoldable pub padded : ℕ → List ℕ → List ℕ
padded zero bs = []
padded (suc n) [] = 0 ∷ padded n []
padded (suc n) (b ∷ bs) = b ∷ padded n bs

-- ---- a label as a caller gives it: its length and its first 16 bytes; bytes behind the length say nothing
abbrev pub given : Label → List ℕ
given l = take l.length l.bytes

-- the label of some bytes
unfoldable pub label_of : List ℕ → Label
label_of s = record { bytes = padded 16 s; length = length s }

-- the reply to a label that is given: a number, and the bytes that rows hold
pub record Held : Type 0 where
  pub reply : ℕ
  pub bytes : List ℕ

-- "Label: 0 to 16 bytes, each 0x21 to 0x7E, held in 16 bytes with zeros behind." "5: label too long or with another byte"
abbrev pub judged : Bool → List ℕ → Held
judged true bs = record { reply = 0; bytes = padded 16 bs }
judged false bs = record { reply = 5; bytes = padded 16 [] }

-- a refusal and zeros
abbrev pub refused_label : ℕ → Held
refused_label r = record { reply = r; bytes = padded 16 [] }

-- each case of what `held_label` answers
abbrev pub held_answer : Result (List ℕ) Refusal → Held
held_answer r = answered (λ bs. record { reply = 0; bytes = bs }) refused_label r

-- the label as rows hold it, or 5
unfoldable pub held_label : Label → Held
held_label l = judged (leb l.length 16 && list_all graphic (given l)) (given l)

-- ---- a label as rows hold it

-- "zeros behind"
abbrev pub all_zero : List ℕ → Bool
all_zero bs = list_all (λ b. eqb b 0) bs

-- bytes that a label may have, and then zeros
unfoldable pub label_ok : List ℕ → Bool
label_ok [] = true
label_ok (b ∷ bs) = cond (graphic b) (label_ok bs) (all_zero (b ∷ bs))

-- "The label comes back as the part before the first zero byte, or all the lent bytes if there is none."
unfoldable pub label_part : List ℕ → List ℕ
label_part bs = take_while (λ b. not (eqb b 0)) bs
