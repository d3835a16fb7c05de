-- `command_of` gives what the grammar says, of every line: `meaning`. So a line says exactly one command, `one_command`; and of a line
-- of which only the first 81 bytes are held it gives what it gives of the whole line, `command_81`.
use mathlib.Core.Path.{◌≡◌, refl, sym, ap, subst, ◌∙◌}
use mathlib.Core.Logic.{◌↔◌, ⊎_elim}
use mathlib.Core.List.{List, [], ◌∷◌, ◌++◌, append-nil}
use Prim.Native.Nat.{ℕ, ◌+◌, ◌-◌, ◌≤◌}
use native.Mathlib.Omega.{arith}
use Prim.Native.Char.{Char}
use lib.ListN.{length, take, length-append}
use lib.Seq.{take_all, length-take-le}
use lib.IntN.{ℤ}
use Rattle.lists.proofs.Tests.{choose, decide, clash, leb_reads, eqb_reads}
use Rattle.script.specs.Commands.{Command, Place, Unreadable}
use Rattle.script.specs.Grammar.{byte, bytes, IsNumber, ◌␣◌, Letter, horizontal, vertical, delete, turn, mirror, HasLabel, none, some, IsLine, three, place, nets, Says, readable, unreadable}
use Rattle.script.specs.Reading.{found, then, field_of, three_of, ending, lettered, three_line, labelled, place_line, line_of, command_of}
use Rattle.script.proofs.Parts.{Stops, end, space, field_by, three_by, field_is, three_is}

-- ---- what is read is a line of the grammar

data Right (s : List ℕ) : Command → Type 0 where
  line : {k : Command} → IsLine s k → Right s k
  nothing : Right s Unreadable

module _ {s : List ℕ} where
  ending_by : {k : Command} (rest : List ℕ) → (rest ≡ [] → Right s k) → Right s (ending Unreadable k rest)
  ending_by [] is = is refl
  ending_by (b ∷ rest) is = nothing

  lettered_by : {A B C : List ℕ} {a b c : ℤ} (l : ℕ) → IsNumber A a → IsNumber B b → IsNumber C c → s ≡ (l ∷ []) ␣ A ␣ B ␣ C → Right s (lettered l a b c)
  unfolding lettered
  lettered_by {A} {B} {C} {a} {b} {c} l p q w e =
      choose (eqb_reads l (byte "h")) (Right s) (is horizontal) (λ n.
      choose (eqb_reads l (byte "v")) (Right s) (is vertical) (λ n.
      choose (eqb_reads l (byte "d")) (Right s) (is delete) (λ n.
      choose (eqb_reads l (byte "r")) (Right s) (is turn) (λ n.
      choose (eqb_reads l (byte "m")) (Right s) (is mirror) (λ n.
      nothing)))))
    where
      is : {k : Char} {f : ℤ → ℤ → ℤ → Command} → Letter k f → l ≡ byte k → Right s (f a b c)
      is letter g = line (three letter p q w (e ∙ ap (λ x. (x ∷ []) ␣ A ␣ B ␣ C) g))

  three_line_lem : (l : ℕ) (t : List ℕ) → s ≡ l ∷ t → Right s (three_line l t)
  unfolding three_line
  three_line_lem l t e = three_by (λ r. Right s (then r (λ u. ending Unreadable (lettered l u.0 u.1 u.2)) Unreadable)) t
      (λ a b c rest w. ending_by rest (λ q. lettered_by l w.is_a w.is_b w.is_c (rw (e, w.all, q, append-nil)))) nothing

  module _ {KIND ORIENT X Y : List ℕ} {kind orient x y : ℤ} (a : IsNumber KIND kind) (b : IsNumber ORIENT orient) (c : IsNumber X x) (d : IsNumber Y y) where
    label_line : (rest : List ℕ) → s ≡ bytes "p" ␣ KIND ␣ ORIENT ␣ X ␣ Y ++ rest → Right s (labelled (length s) (Place kind orient x y) rest)
    unfolding labelled
    label_line [] e = line (place {at = length s} a b c d none e (omega arith))
    label_line (t ∷ []) e = nothing
    label_line (t ∷ u ∷ rest) e =
        choose (eqb_reads t (byte " ")) (Right s)
        (λ q. line (place {at = length s - length (u ∷ rest)} a b c d (some {b = u} {bs = rest}) (rw (e, q)) (omega (arith, simp length-append at (ap length e)))))
        (λ n. nothing)

  place_line_lem : (t : List ℕ) → s ≡ byte "p" ∷ t → Right s (place_line (length s) t)
  unfolding place_line
  place_line_lem t e =
      three_by (λ r. Right s (then r (λ u s1. then (field_of s1) (λ y. labelled (length s) (Place u.0 u.1 u.2 y)) Unreadable) Unreadable)) t
      (λ kind orient x s1 w. field_by (λ r. Right s (then r (λ y. labelled (length s) (Place kind orient x y)) Unreadable)) s1
      (λ Y rest y g q. label_line w.is_a w.is_b w.is_c g rest (rw (e, w.all, q))) nothing) nothing

line_right : (s : List ℕ) → Right s (line_of s)
unfolding line_of
line_right [] = nothing
line_right (b ∷ s) =
    choose (eqb_reads b (byte "p")) (Right (b ∷ s)) (λ e. place_line_lem s (rw e)) (λ n.
    choose (eqb_reads b (byte "n")) (Right (b ∷ s)) (λ e. ending_by s (λ q. line (nets (rw (e, q))))) (λ n.
    three_line_lem b s refl))

-- ---- every line of the grammar is read

three_line_is : {l : Char} {f : ℤ → ℤ → ℤ → Command} {A B C : List ℕ} {a b c : ℤ} → Letter l f → IsNumber A a → IsNumber B b → IsNumber C c
    → line_of ((byte l ∷ []) ␣ A ␣ B ␣ C) ≡ f a b c
unfolding line_of three_line lettered
three_line_is {f = f} {A} {B} {C} {a} {b} {c} letter p q w = by letter (ap (λ C. three_of ([] ␣ A ␣ B ␣ C)) (sym (append-nil C)) ∙ three_is p q w end) where
  by : {l : Char} {f : ℤ → ℤ → ℤ → Command} → Letter l f → three_of ([] ␣ A ␣ B ␣ C) ≡ found (a, b, c) [] → line_of ((byte l ∷ []) ␣ A ␣ B ␣ C) ≡ f a b c
  by horizontal e = rw e
  by vertical e = rw e
  by delete e = rw e
  by turn e = rw e
  by mirror e = rw e

label_stops : {rest name : List ℕ} → HasLabel rest name → Stops rest
label_stops none = end
label_stops some = space

label_is : (n : ℕ) (f : ℕ → Command) {rest name : List ℕ} {at : ℕ} → HasLabel rest name → at + length name ≡ n → labelled n f rest ≡ f at
unfolding labelled
label_is n f none e = ap f (omega arith)
label_is n f some e = ap f (omega arith)

line_is : {s : List ℕ} {k : Command} → IsLine s k → line_of s ≡ k
unfolding line_of place_line
line_is (three letter p q w e) = rw e (three_line_is letter p q w)
line_is {s} (place {Y = Y} {rest = rest} a b c d l e at) =
    rw (e, three_is a b c (space {s = Y ++ rest}), field_is (label_stops l) d) (label_is _ (Place _ _ _ _) l (at ∙ ap length e))
line_is (nets e) = rw e

-- ---- the two together

module _ (s : List ℕ) where
  -- no line of the grammar says `Unreadable`
  not_unreadable : {k : Command} → IsLine s k → k ≡ Unreadable → ⊥
  not_unreadable (three horizontal p q w e) u = clash refl (cc)
  not_unreadable (three vertical p q w e) u = clash refl (cc)
  not_unreadable (three delete p q w e) u = clash refl (cc)
  not_unreadable (three turn p q w e) u = clash refl (cc)
  not_unreadable (three mirror p q w e) u = clash refl (cc)
  not_unreadable (place a b c d l e at) u = clash refl (cc)
  not_unreadable (nets e) u = clash refl (cc)

  short : length s ≤ 80 → {k : Command} → line_of s ≡ k → Right s k → Says s k
  short le e (line g) = readable le g
  short le e nothing = unreadable (λ k le g. not_unreadable g (sym (line_is g) ∙ e))

  says : Says s (command_of s)
  unfolding command_of
  says = choose (leb_reads (length s) 80) (Says s) (λ le. short le refl (line_right s)) (λ n. unreadable (λ k le g. n le))

  pub one_command : {j k : Command} → Says s j → Says s k → j ≡ k
  one_command (readable le f) (readable le' g) = sym (line_is f) ∙ line_is g
  one_command (readable {k} le f) (unreadable n) = absurd (n k le f)
  one_command (unreadable n) (readable {k} le g) = absurd (n k le g)
  one_command (unreadable n) (unreadable n') = refl

  pub meaning : (k : Command) → (command_of s ≡ k) ↔ Says s k
  meaning k = (λ e. subst (Says s) e says, one_command says)

pub too_long : (s : List ℕ) → 81 ≤ length s → command_of s ≡ Unreadable
unfolding command_of
too_long s h = choose (leb_reads (length s) 80) (λ k. k ≡ Unreadable) (λ le. absurd (omega arith)) (λ n. refl)

-- what does not look at an unreadable line does not tell a line from its first 81 bytes
pub only_81 : {A : Type 0} (f : List ℕ → A) (u : A) → ((s : List ℕ) → command_of s ≡ Unreadable → f s ≡ u) → (s : List ℕ) → f (take 81 s) ≡ f s
only_81 f u same s = ⊎_elim (λ (le : length s ≤ 80). ap f (take_all 81 s (omega arith))) (λ n. long (omega arith)) (decide (leb_reads (length s) 80))
  where
    long : 81 ≤ length s → f (take 81 s) ≡ f s
    long h =
        let l : 81 ≤ length (take 81 s) = omega (arith, length-take-le 81 s h) in
        same (take 81 s) (too_long (take 81 s) l) ∙ sym (same s (too_long s h))

pub command_81 : (s : List ℕ) → command_of (take 81 s) ≡ command_of s
command_81 = only_81 command_of Unreadable (λ s e. e)
