-- The laws of the eight orientations: the numbers 0 to 7 and the eight are one to one; a turn of the number is the turn of its four numbers;
-- four right turns, a left and a right turn, and two mirrors change nothing.
use mathlib.Core.Path.{◌≡◌, refl, sym, ap, ◌∙◌, subst}
use Prim.Native.Nat.{ℕ, ◌<◌, ◌≤◌}
use native.Mathlib.Omega.{arith}
use mathlib.Core.Bool.{Bool, true, false, cond}
use mathlib.Core.List.{List}
use lib.Dec.{T, ltb, ltb→lt}
use lib.IntN.{neg_ℤ-neg_ℤ}
use lib.ListN.{length, get_or-eq_default}
use borrow.Author.Tests.{lt-ltb, le-ltb}
use Rattle.std.specs.List.{list_all}
use Rattle.lists.specs.Span.{span}
use Rattle.lists.proofs.Tests.{Reads, pass, fail, ltb_reads}
use Rattle.orientation.specs.Orientations.{rot_mirror, eight, zeros, same_of, known, eighth, number_of, FourNumbers, numbered_of, four_are, no_four, four_answered, Turned, turn_is, no_turn, turn_answered, turn_by, turned_by, rights, lefts, mirrors, right_of, left_of, mirror_of}
use Rattle.orientation.specs.declared.RotMirror.{RotMirror}
use Rattle.refusal.specs.declared.Refusal.{Refusal}
use Rattle.refusal.specs.Numbers.{number_of as refusal_number}
use Rattle.refusal.proofs.Numbers.{refuses}
use Rattle.refusal.specs.declared.Refusal.TheVariants.{UnknownSymbol}
use Rattle.std.specs.Prelude.{slice_get, Result, Ok, Err}
use Rattle.std.specs.Option.{ok_or}
use Rattle.std.proofs.lemmas.Option.{slice_get_past}
use Rattle.orientation.proofs.Eight.{Each, up_to, below_8, test_8, of_eight}

-- ---- on any four numbers
pub left_right : (o : RotMirror) → left_of (right_of o) ≡ o
left_right o = λ i. rot_mirror o.0 o.1 (neg_ℤ-neg_ℤ o.2 i) (neg_ℤ-neg_ℤ o.3 i)

pub right_left : (o : RotMirror) → right_of (left_of o) ≡ o
right_left o = λ i. rot_mirror (neg_ℤ-neg_ℤ o.0 i) (neg_ℤ-neg_ℤ o.1 i) o.2 o.3

pub four_rights : (o : RotMirror) → right_of (right_of (right_of (right_of o))) ≡ o
four_rights o = λ i. rot_mirror (neg_ℤ-neg_ℤ o.0 i) (neg_ℤ-neg_ℤ o.1 i) (neg_ℤ-neg_ℤ o.2 i) (neg_ℤ-neg_ℤ o.3 i)

pub two_mirrors : (o : RotMirror) → mirror_of (mirror_of o) ≡ o
two_mirrors o = λ i. rot_mirror (neg_ℤ-neg_ℤ o.0 i) (neg_ℤ-neg_ℤ o.1 i) o.2 o.3

-- ---- a turn of the number is the turn of its four numbers

-- what holds of 0 to 7 and of each number from 8 on
every : (P : ℕ → Type 0) → Each P (up_to 8) → ((n : ℕ) → 8 ≤ n → P n) → (n : ℕ) → P n
every P h f n = go (ltb_reads n 8)
  where
    go : {b : Bool} → Reads (n < 8) b → P n
    go (pass l) = below_8 P h n l
    go (fail k) = f n (omega (arith, k))

-- from 8 on there are no four numbers
none : (n : ℕ) → 8 ≤ n → eighth n ≡ zeros
none n h = get_or-eq_default eight zeros h

-- the turn f of the four numbers is the table t on the numbers, also where there is none: zeros stay zeros
abbrev pub Follows : (RotMirror → RotMirror) → List ℕ → Type 0
Follows f t = (n : ℕ) → eighth (turn_by t n) ≡ f (eighth n)

follows : (f : RotMirror → RotMirror) (t : List ℕ) → length t ≡ 8 → zeros ≡ f zeros → Each (λ (n : ℕ). eighth (turn_by t n) ≡ f (eighth n)) (up_to 8) → Follows f t
follows f t e z h = every (λ (n : ℕ). eighth (turn_by t n) ≡ f (eighth n)) h (λ n k. ap eighth (get_or-eq_default t 8 (subst (λ m. m ≤ n) (sym e) k)) ∙ z ∙ sym (ap f (none n k)))

pub eighth_right : Follows right_of rights
eighth_right = follows right_of rights refl refl (refl, (refl, (refl, (refl, (refl, (refl, (refl, (refl, tt))))))))

pub eighth_left : Follows left_of lefts
eighth_left = follows left_of lefts refl refl (refl, (refl, (refl, (refl, (refl, (refl, (refl, (refl, tt))))))))

pub eighth_mirror : Follows mirror_of mirrors
eighth_mirror = follows mirror_of mirrors refl refl (refl, (refl, (refl, (refl, (refl, (refl, (refl, (refl, tt))))))))

-- ---- the numbers 0 to 7 and the eight are one to one

-- a number is one of 0 to 7 exactly if its four numbers are one of the eight
pub known_number : (n : ℕ) → known (eighth n) ≡ ltb n 8
unfolding same_of
known_number = every (λ (n : ℕ). known (eighth n) ≡ ltb n 8) (refl, (refl, (refl, (refl, (refl, (refl, (refl, (refl, tt)))))))) (λ n h. ap known (none n h) ∙ sym (le-ltb n 8 h))

pub eighth_known : (n : ℕ) → n < 8 → T (known (eighth n))
eighth_known n h = subst T (sym (known_number n ∙ lt-ltb n 8 h)) tt

-- the number of four numbers that are one of the eight, and back
pub number_eighth : (n : ℕ) → n < 8 → number_of (eighth n) ≡ n
unfolding span same_of
number_eighth = below_8 (λ (n : ℕ). number_of (eighth n) ≡ n) (refl, (refl, (refl, (refl, (refl, (refl, (refl, (refl, tt))))))))

pub eighth_number : (o : RotMirror) → T (known o) → (number_of o < 8) × (eighth (number_of o) ≡ o)
unfolding span same_of
eighth_number = of_eight (λ (o : RotMirror). (number_of o < 8) × (eighth (number_of o) ≡ o))
    ((omega arith, refl), ((omega arith, refl), ((omega arith, refl), ((omega arith, refl), ((omega arith, refl), ((omega arith, refl), ((omega arith, refl), ((omega arith, refl), tt))))))))

-- ---- each turn takes the numbers 0 to 7 to themselves
abbrev pub Stays : List ℕ → Type 0
Stays t = (n : ℕ) → n < 8 → turn_by t n < 8

stays : (t : List ℕ) → T (list_all (λ (n : ℕ). ltb (turn_by t n) 8) (up_to 8)) → Stays t
stays t h n l = ltb→lt (turn_by t n) 8 (test_8 (λ (n : ℕ). ltb (turn_by t n) 8) h n l)

pub right_stays : Stays rights
right_stays = stays rights tt

pub left_stays : Stays lefts
left_stays = stays lefts tt

pub mirror_stays : Stays mirrors
mirror_stays = stays mirrors tt

-- ---- the calls

pub turn_known : (t : List ℕ) (n : ℕ) → n < 8 → turned_by t n ≡ turn_is (turn_by t n)
unfolding turned_by
turn_known t n h = λ i. cond (lt-ltb n 8 h i) (turn_is (turn_by t n)) no_turn

pub turn_none : (t : List ℕ) (n : ℕ) → 8 ≤ n → turned_by t n ≡ no_turn
unfolding turned_by
turn_none t n h = λ i. cond (le-ltb n 8 h i) (turn_is (turn_by t n)) no_turn

-- ---- a table of eight as the code reads it
abbrev looked_up : {A : Type 0} → List A → ℕ → Result A Refusal
looked_up t n = ok_or (slice_get t n) UnknownSymbol

read : {A B : Type 0} (f : Result A Refusal → B) (t : List A) (g : ℕ → B) → length t ≡ 8 → ((n : ℕ) → 8 ≤ n → g n ≡ f (Err UnknownSymbol))
    → Each (λ n. f (looked_up t n) ≡ g n) (up_to 8) → (n : ℕ) → f (looked_up t n) ≡ g n
read f t g e z h = every (λ n. f (looked_up t n) ≡ g n) h
    (λ n k. ap (λ o. f (ok_or o UnknownSymbol)) (slice_get_past t n (subst (λ m. m ≤ n) (sym e) k)) ∙ sym (z n k))

abbrev Read : List ℕ → Type 0
Read t = (n : ℕ) → turn_answered (looked_up t n) ≡ turned_by t n

pub rights_read : Read rights
unfolding turned_by
rights_read = read turn_answered rights (turned_by rights) refl (turn_none rights) (refl, (refl, (refl, (refl, (refl, (refl, (refl, (refl, tt))))))))

pub lefts_read : Read lefts
unfolding turned_by
lefts_read = read turn_answered lefts (turned_by lefts) refl (turn_none lefts) (refl, (refl, (refl, (refl, (refl, (refl, (refl, (refl, tt))))))))

pub mirrors_read : Read mirrors
unfolding turned_by
mirrors_read = read turn_answered mirrors (turned_by mirrors) refl (turn_none mirrors) (refl, (refl, (refl, (refl, (refl, (refl, (refl, (refl, tt))))))))

-- a turn of one of the eight is no refusal
pub turns : (t : List ℕ) {n : ℕ} (r : Result ℕ Refusal) → n < 8 → turn_answered r ≡ turned_by t n → r ≡ Ok (turn_by t n)
turns t {n} (Ok m) h e = ap Ok (ap (λ (a : Turned). a.turn) (e ∙ turn_known t n h))
turns t {n} (Err r) h e = absurd (let k = refuses r in let q : refusal_number r ≡ 0 = ap (λ (a : Turned). a.reply) (e ∙ turn_known t n h) in let z : ⊥ = omega arith in z)

-- after a turn that is answered by 0, the turn back is answered by 0 and the first number
abbrev Undoes : List ℕ → List ℕ → Type 0
Undoes u t = (n : ℕ) → n < 8 → turned_by u (turned_by t n).turn ≡ turn_is n

undone : (u t : List ℕ) → Stays t → Each (λ (n : ℕ). turn_by u (turn_by t n) ≡ n) (up_to 8) → Undoes u t
undone u t s h n l = ap (λ (r : Turned). turned_by u r.turn) (turn_known t n l) ∙ turn_known u (turn_by t n) (s n l) ∙ ap turn_is (below_8 (λ (n : ℕ). turn_by u (turn_by t n) ≡ n) h n l)

pub right_then_left : Undoes lefts rights
right_then_left = undone lefts rights right_stays (refl, (refl, (refl, (refl, (refl, (refl, (refl, (refl, tt))))))))

pub left_then_right : Undoes rights lefts
left_then_right = undone rights lefts left_stays (refl, (refl, (refl, (refl, (refl, (refl, (refl, (refl, tt))))))))

pub mirror_twice : Undoes mirrors mirrors
mirror_twice = undone mirrors mirrors mirror_stays (refl, (refl, (refl, (refl, (refl, (refl, (refl, (refl, tt))))))))

-- the four numbers asked of a number
pub four_known : (n : ℕ) → n < 8 → numbered_of n ≡ four_are (eighth n)
unfolding numbered_of
four_known n h = λ i. cond (lt-ltb n 8 h i) (four_are (eighth n)) no_four

pub four_none : (n : ℕ) → 8 ≤ n → numbered_of n ≡ no_four
unfolding numbered_of
four_none n h = λ i. cond (le-ltb n 8 h i) (four_are (eighth n)) no_four

pub four_read : (n : ℕ) → four_answered (looked_up eight n) ≡ numbered_of n
unfolding numbered_of
four_read = read four_answered eight numbered_of refl four_none (refl, (refl, (refl, (refl, (refl, (refl, (refl, (refl, tt))))))))

-- what `numbered` tells are the four numbers of the number, also where it answers 4
pub told_four : (n : ℕ) {r : FourNumbers} → r ≡ numbered_of n → r.turn ≡ eighth n
told_four n e = ap (λ (r : FourNumbers). r.turn) e ∙ go (ltb_reads n 8)
  where
    go : {b : Bool} → Reads (n < 8) b → (numbered_of n).turn ≡ eighth n
    go (pass l) = ap (λ (r : FourNumbers). r.turn) (four_known n l)
    go (fail k) = let h : 8 ≤ n = omega (arith, k) in ap (λ (r : FourNumbers). r.turn) (four_none n h) ∙ sym (none n h)

-- and where it refuses, the number is none of 0 to 7, and its refusal is 4
pub four_refused : (n : ℕ) (r : Refusal) → four_answered (Err r) ≡ numbered_of n → (ltb n 8 ≡ false) × (refusal_number r ≡ 4)
unfolding numbered_of
four_refused n r e = go (ltb n 8) (ap (λ (f : FourNumbers). f.reply) e)
  where
    go : (b : Bool) → refusal_number r ≡ (cond b (four_are (eighth n)) no_four).reply → (b ≡ false) × (refusal_number r ≡ 4)
    go true e = absurd (let h = refuses r in let z : ⊥ = omega arith in z)
    go false e = (refl, e)
