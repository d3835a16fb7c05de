-- `lines_of` gives the lines of an input, and nothing else are its lines: `cutting`.
use mathlib.Core.Path.{◌≡◌, refl, sym, ap, subst, ◌∙◌}
use mathlib.Core.Logic.{◌↔◌}
use mathlib.Core.List.{List, [], ◌∷◌, ◌++◌, append-nil, append_assoc}
use Prim.Native.Nat.{ℕ, ◌≤◌}
use native.Mathlib.Omega.{arith}
use lib.ListN.{length}
use Rattle.lists.proofs.Tests.{choose, eqb_reads}
use Rattle.lines.specs.Lines.{newline, OneLine, none, more, AreLines, nothing, last, line, lines_from, lines_of}

one_more : {l : List ℕ} {b : ℕ} → OneLine l → (b ≡ newline → ⊥) → OneLine (l ++ (b ∷ []))
one_more none n = more n none
one_more (more m g) n = more m (one_more g n)

lines_from_lem : (begun s : List ℕ) → OneLine begun → AreLines (begun ++ s) (lines_from begun s)
unfolding lines_from
lines_from_lem [] [] g = nothing
lines_from_lem (c ∷ begun) [] g = rw append-nil (last g (omega arith))
lines_from_lem begun (b ∷ s) g =
    let after = lines_from_lem [] s none in
    let later = lines_from_lem (begun ++ (b ∷ [])) s in
    choose (eqb_reads b newline) (AreLines (begun ++ (b ∷ s)))
    (λ e. line g (rw e) after)
    (λ n. rw (← append_assoc begun (b ∷ []) s) (later (one_more g n)))

past : (begun : List ℕ) {l : List ℕ} (s : List ℕ) → OneLine l → lines_from begun (l ++ s) ≡ lines_from (begun ++ l) s
unfolding lines_from
past begun s none = rw append-nil
past begun s (more {b} {l} n g) =
    let later = past (begun ++ (b ∷ [])) s g in
    choose (eqb_reads b newline) (λ ls. ls ≡ lines_from (begun ++ (b ∷ l)) s) (λ e. absurd (n e)) (λ m. rw (← append_assoc begun (b ∷ []) l) later)

alone : (l : List ℕ) → 1 ≤ length l → lines_from l [] ≡ l ∷ []
unfolding lines_from
alone [] some = absurd (omega arith)
alone (b ∷ l) some = refl

lines_are : {s : List ℕ} {ls : List (List ℕ)} → AreLines s ls → lines_of s ≡ ls
unfolding lines_of lines_from
lines_are nothing = refl
lines_are (last {l} g some) = ap (lines_from []) (sym (append-nil l)) ∙ past [] [] g ∙ alone l some
lines_are (line {l} {s} g e rest) = rw (e, past [] (newline ∷ s) g, lines_are rest)

pub cutting : (s : List ℕ) (ls : List (List ℕ)) → (lines_of s ≡ ls) ↔ AreLines s ls
unfolding lines_of
cutting s ls = (λ e. subst (AreLines s) e (lines_from_lem [] s none), lines_are)
