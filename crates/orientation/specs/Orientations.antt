-- The eight orientations by their numbers, and the three turns.
use Rattle.std.specs.Prelude.{ℕ, Bool, false, ◌&&◌, cond, not, List, [], ◌∷◌, eqb, ltb, ℤ, pos, negsuc, neg_ℤ, get_or, Result}
use Rattle.std.specs.List.{list_any}
use Rattle.lists.specs.Span.{span}
use Rattle.orientation.specs.declared.RotMirror.{RotMirror}
use Rattle.refusal.specs.declared.Refusal.{Refusal}
use Rattle.refusal.specs.Numbers.{answered}

-- ---- the four numbers

-- (a, b, c, d)
abbrev pub rot_mirror : ℤ → ℤ → ℤ → ℤ → RotMirror
rot_mirror a b c d = record { 0 = a; 1 = b; 2 = c; 3 = d }

-- "Numbered 0 to 3: (1,0,0,1), (0,−1,1,0), (−1,0,0,−1), (0,1,−1,0). 4 to 7: (−1,0,0,1), (0,−1,−1,0), (1,0,0,−1), (0,1,1,0)."
abbrev pub eight : List RotMirror
eight =
    rot_mirror (pos 1) (pos 0) (pos 0) (pos 1)
    ∷ rot_mirror (pos 0) (negsuc 0) (pos 1) (pos 0)
    ∷ rot_mirror (negsuc 0) (pos 0) (pos 0) (negsuc 0)
    ∷ rot_mirror (pos 0) (pos 1) (negsuc 0) (pos 0)
    ∷ rot_mirror (negsuc 0) (pos 0) (pos 0) (pos 1)
    ∷ rot_mirror (pos 0) (negsuc 0) (negsuc 0) (pos 0)
    ∷ rot_mirror (pos 1) (pos 0) (pos 0) (negsuc 0)
    ∷ rot_mirror (pos 0) (pos 1) (pos 1) (pos 0)
    ∷ []

-- the same number
abbrev pub eq_z : ℤ → ℤ → Bool
eq_z (pos m) (pos n) = eqb m n
eq_z (pos m) (negsuc n) = false
eq_z (negsuc m) (pos n) = false
eq_z (negsuc m) (negsuc n) = eqb m n

-- the same four numbers
unfoldable pub same_of : RotMirror → RotMirror → Bool
same_of o p = eq_z o.0 p.0 && (eq_z o.1 p.1 && (eq_z o.2 p.2 && eq_z o.3 p.3))

-- "Orientation: four signed numbers that are one of the eight"
abbrev pub known : RotMirror → Bool
known o = list_any (same_of o) eight

-- "zeros for every number"
abbrev pub zeros : RotMirror
zeros = rot_mirror (pos 0) (pos 0) (pos 0) (pos 0)

-- the four numbers of a number; zeros, which are none of the eight, where it is none of 0 to 7
abbrev pub eighth : ℕ → RotMirror
eighth n = get_or eight n zeros

-- the number of four numbers that are one of the eight: its place among them
abbrev pub number_of : RotMirror → ℕ
number_of o = span (λ p. not (same_of o p)) eight

-- "Turn right: (−c, −d, a, b)."
abbrev pub right_of : RotMirror → RotMirror
right_of o = rot_mirror (neg_ℤ o.2) (neg_ℤ o.3) o.0 o.1

-- "Turn left: (c, d, −a, −b)."
abbrev pub left_of : RotMirror → RotMirror
left_of o = rot_mirror o.2 o.3 (neg_ℤ o.0) (neg_ℤ o.1)

-- "Mirror: (−a, −b, c, d)."
abbrev pub mirror_of : RotMirror → RotMirror
mirror_of o = rot_mirror (neg_ℤ o.0) (neg_ℤ o.1) o.2 o.3

-- ---- "turning and mirroring on that number" (document 02, P1): what the three turns make of 0 to 7. That these are the turns of the four
-- numbers is `Follows` in proofs/Turns: eighth-right, eighth-left, eighth-mirror.
abbrev pub rights : List ℕ
rights = 1 ∷ 2 ∷ 3 ∷ 0 ∷ 5 ∷ 6 ∷ 7 ∷ 4 ∷ []

abbrev pub lefts : List ℕ
lefts = 3 ∷ 0 ∷ 1 ∷ 2 ∷ 7 ∷ 4 ∷ 5 ∷ 6 ∷ []

abbrev pub mirrors : List ℕ
mirrors = 4 ∷ 7 ∷ 6 ∷ 5 ∷ 0 ∷ 3 ∷ 2 ∷ 1 ∷ []

-- the number that a table has for n; what is no number stays none
abbrev pub turn_by : List ℕ → ℕ → ℕ
turn_by t n = get_or t n 8

-- "Only contacts turn or mirror in place": the kind is that of a contact
abbrev pub can_turn : ℕ → Bool
can_turn kind = eqb kind 1

-- ---- the calls: "A box, pads or a turn asked of a bad kind, orientation or position get 4 or 1, in that order, and zeros for every
-- number." "For orientations, reply 4 is now a number outside 0 to 7" (document 02, P1).

-- the reply to a turn: a number, and the number of the turned orientation
pub record Turned : Type 0 where
  pub reply : ℕ
  pub turn : ℕ

-- 0 and the number of the turned orientation
abbrev pub turn_is : ℕ → Turned
turn_is n = record { reply = 0; turn = n }

-- a refusal and 0
abbrev pub refused_turn : ℕ → Turned
refused_turn r = record { reply = r; turn = 0 }

-- 4 and 0
abbrev pub no_turn : Turned
no_turn = refused_turn 4

-- a turn asked of a number, by its table
unfoldable pub turned_by : List ℕ → ℕ → Turned
turned_by t n = cond (ltb n 8) (turn_is (turn_by t n)) no_turn

-- each case of what a turn answers
abbrev pub turn_answered : Result ℕ Refusal → Turned
turn_answered r = answered turn_is refused_turn r

-- the reply to a call for the four numbers: a number, and the orientation
pub record FourNumbers : Type 0 where
  pub reply : ℕ
  pub turn : RotMirror

-- 0 and the four numbers
abbrev pub four_are : RotMirror → FourNumbers
four_are o = record { reply = 0; turn = o }

-- a refusal and zeros
abbrev pub refused_four : ℕ → FourNumbers
refused_four r = record { reply = r; turn = zeros }

-- 4 and zeros
abbrev pub no_four : FourNumbers
no_four = refused_four 4

-- the four numbers asked of a number
unfoldable pub numbered_of : ℕ → FourNumbers
numbered_of n = cond (ltb n 8) (four_are (eighth n)) no_four

-- each case of what a call for the four numbers answers
abbrev pub four_answered : Result RotMirror Refusal → FourNumbers
four_answered r = answered four_are refused_four r
