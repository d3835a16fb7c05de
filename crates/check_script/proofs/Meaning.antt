-- `said_of` gives what the grammar says, of every line: `meaning`. So a line says exactly one thing, `one_meaning`.
use mathlib.Core.Path.{◌≡◌, refl, sym, ap, subst, ◌∙◌}
use mathlib.Core.Bool.{Bool, true, false}
use mathlib.Core.Logic.{◌↔◌}
use mathlib.Core.List.{List, [], ◌∷◌, append-nil}
use Prim.Native.Nat.{ℕ, ◌≤◌}
use Prim.Native.Char.{Char}
use native.Mathlib.Omega.{arith}
use lib.ListN.{length}
use lib.IntN.{ℤ, pos, negsuc}
use Rattle.lists.proofs.Tests.{choose, leb_reads, eqb_reads, clash}
use Rattle.script.specs.Grammar.{byte, bytes, IsNumber, ◌␣◌}
use Rattle.script.specs.Reading.{found, then, field_of, ending}
use Rattle.script.proofs.Parts.{end, behind_by, field_by, field_is}
use Rattle.check_script.specs.Saying.{Said, Unreadable}
use Rattle.check_script.specs.Counts.{Table, wires, components, joints}
use Rattle.check_script.specs.Grammar as g
use Rattle.check_script.specs.Grammar.{IsRow, IsDrawingLine, IsSaid, readable, unreadable}
use Rattle.check_script.specs.Reading.{row_of, counted_of, count_of, line_said, said_of}
use Rattle.check_script.proofs.Parts.{ending_by}
use Rattle.check_script.proofs.Rows.{row_by, row_is, row_readable}

-- ---- what is read is a line

data Right (s : List ℕ) : Said → Type 0 where
  line : {k : Said} → IsDrawingLine s k → Right s k
  nothing : Right s Unreadable

counted_by : (s : List ℕ) (l : ℕ) (z : ℤ) {N : List ℕ} → IsNumber N z → s ≡ byte "#" ∷ byte " " ∷ l ∷ byte " " ∷ N → Right s (counted_of l z)
unfolding counted_of
counted_by s l (negsuc n) m e = nothing
counted_by s l (pos n) {N} m e =
    choose (eqb_reads l (byte "w")) (Right s) (is wires) (λ u.
    choose (eqb_reads l (byte "c")) (Right s) (is components) (λ u.
    choose (eqb_reads l (byte "j")) (Right s) (is joints) (λ u. nothing)))
  where
    is : {c : Char} {f : ℕ → Said} → Table c f → l ≡ byte c → Right s (f n)
    is t q = line (g.count t m (e ∙ ap (λ x. byte "#" ∷ byte " " ∷ x ∷ byte " " ∷ N) q))

count_by : (s t : List ℕ) → s ≡ byte "#" ∷ t → Right s (count_of t)
unfolding count_of
count_by s [] e = nothing
count_by s (b ∷ []) e = nothing
count_by s (b ∷ l ∷ u) e =
    choose (eqb_reads b (byte " ")) (Right s)
    (λ q. field_by (λ r. Right s (then r (λ z. ending Unreadable (counted_of l z)) Unreadable)) u
    (λ N rest z m e1. ending_by (Right s) nothing rest (λ p. counted_by s l z m (rw (e, q, e1, p, append-nil))))
    nothing) (λ m. nothing)

line_right : (s : List ℕ) → Right s (line_said s)
unfolding line_said
line_right s =
    behind_by (Right s) (byte "Z") s
    (λ t e. behind_by (Right s) (byte " ") t
    (λ u q. row_by (length s) true u (omega (arith, ap length (e ∙ ap (λ l. byte "Z" ∷ l) q))) (Right s) (λ k r. line (g.behind (e ∙ ap (λ l. byte "Z" ∷ l) q) r)) nothing)
    nothing)
    (behind_by (Right s) (byte "#") s (count_by s)
    (behind_by (Right s) (byte ".") s (λ t e. ending_by (Right s) nothing t (λ q. line (g.end (e ∙ ap (λ l. byte "." ∷ l) q))))
    (row_by (length s) false s (omega arith) (Right s) (λ k r. line (g.row r)) nothing)))

-- ---- every line of the grammar is read

row_front : {n : ℕ} {back : Bool} {s : List ℕ} {k : Said} → IsRow n back s k → line_said s ≡ row_of (length s) false s
unfolding line_said
row_front (g.wire dir gl ga ge e) = rw e
row_front (g.component gk go gx gy l few e at) = rw e
row_front (g.joint gx gy gc e) = rw e

behind_front : (s t : List ℕ) → s ≡ bytes "Z" ␣ t → line_said s ≡ row_of (length s) true t
unfolding line_said
behind_front s t e = rw e

count_is : {l : Char} {f : ℕ → Said} {N : List ℕ} {n : ℕ} → Table l f → IsNumber N (pos n) → line_said (bytes "#" ␣ (byte l ∷ []) ␣ N) ≡ f n
unfolding line_said count_of counted_of
count_is {l} {f} {N} {n} t m = by t (ap (λ l. field_of (byte " " ∷ l)) (sym (append-nil N)) ∙ field_is end m) where
  by : {l : Char} {f : ℕ → Said} → Table l f → field_of (byte " " ∷ N) ≡ found (pos n) [] → line_said (bytes "#" ␣ (byte l ∷ []) ␣ N) ≡ f n
  by wires e = rw e
  by components e = rw e
  by joints e = rw e

line_is : {s : List ℕ} {k : Said} → IsDrawingLine s k → line_said s ≡ k
unfolding line_said
line_is (g.row r) = row_front r ∙ row_is r
line_is {s} (g.behind {t} e r) = behind_front s t e ∙ row_is r
line_is (g.count t m e) = rw e (count_is t m)
line_is (g.end e) = rw e

-- ---- the two together

module _ (s : List ℕ) where
  not_unreadable : {k : Said} → IsDrawingLine s k → k ≡ Unreadable → ⊥
  not_unreadable (g.row r) u = row_readable r u
  not_unreadable (g.behind e r) u = row_readable r u
  not_unreadable (g.count wires m e) u = clash refl (cc)
  not_unreadable (g.count components m e) u = clash refl (cc)
  not_unreadable (g.count joints m e) u = clash refl (cc)
  not_unreadable (g.end e) u = clash refl (cc)

  short : length s ≤ 80 → {k : Said} → line_said s ≡ k → Right s k → IsSaid s k
  short le e (line r) = readable le r
  short le e nothing = unreadable (λ k le r. not_unreadable r (sym (line_is r) ∙ e))

  says : IsSaid s (said_of s)
  unfolding said_of
  says = choose (leb_reads (length s) 80) (IsSaid s) (λ le. short le refl (line_right s)) (λ m. unreadable (λ k le r. m le))

  pub one_meaning : {j k : Said} → IsSaid s j → IsSaid s k → j ≡ k
  one_meaning (readable le f) (readable le' r) = sym (line_is f) ∙ line_is r
  one_meaning (readable {k} le f) (unreadable m) = absurd (m k le f)
  one_meaning (unreadable m) (readable {k} le r) = absurd (m k le r)
  one_meaning (unreadable m) (unreadable m') = refl

  pub meaning : (k : Said) → (said_of s ≡ k) ↔ IsSaid s k
  meaning k = (λ e. subst (IsSaid s) e says, one_meaning says)
