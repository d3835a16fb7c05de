-- Each part of a row, read, and what goes on behind it. `PART-by`: what the reader finds is such a part, so what holds of going on behind
-- every such part, and of none, holds of what is read. `PART-is`: the reader finds every such part, up to the line's end or a space.
use mathlib.Core.Path.{◌≡◌, refl, sym, ap, subst, ◌∙◌}
use mathlib.Core.Bool.{Bool, true, false, cond}
use mathlib.Core.List.{List, [], ◌∷◌, ◌++◌, append-nil}
use Prim.Native.Nat.{ℕ, ◌+◌, ◌-◌, ◌≤◌}
use Prim.Native.Char.{Char}
use native.Mathlib.Omega.{arith}
use borrow.Author.Tests.{le-leb}
use lib.ListN.{length}
use lib.IntN.{ℤ}
use Rattle.lists.proofs.Tests.{choose, leb_reads, eqb_reads}
use Rattle.script.specs.Grammar.{byte, HasLabel, none, some}
use Rattle.script.specs.Reading.{Front, found, missing, then, ending}
use Rattle.script.proofs.Parts.{Stops, end, space, behind_by, field_by, field_is}
use Rattle.check_script.specs.Saying.{Said, Unreadable}
use Rattle.check_script.specs.Grammar.{IsHeld, holds, IsDirection, horizontal, vertical}
use Rattle.check_script.specs.Reading.{fitted, fitted_field, vertical_of, direction_of, labelled_row}

by_test : {B : Type 0} (P : B → Type 0) (b : Bool) {x y : B} → (b ≡ true → P x) → P y → P (cond b x y)
by_test P true is not = is refl
by_test P false is not = not

module _ {B : Type 0} (P : B → Type 0) {e : B} (not : P e) (s : List ℕ) where
  pub held_by : {A : Type 0} {low high : ℕ} {f : ℤ → A} {g : A → List ℕ → B}
      → ((t rest : List ℕ) (a : A) → IsHeld low high f t a → s ≡ byte " " ∷ (t ++ rest) → P (g a rest)) → P (then (fitted_field low high f s) g e)
  unfolding fitted_field
  held_by {A} {low} {high} {f} {g} is =
      field_by (λ r. P (then (then r (λ z t. cond (fitted low high z) (found (f z) t) missing) missing) g e)) s
      (λ t rest z n q. by_test (λ r. P (then r g e)) (fitted low high z) (λ h. is t rest (f z) (holds n h) q) not) not

  pub direction_by : {g : Bool → List ℕ → B} → ((d : Char) (v : Bool) (rest : List ℕ) → IsDirection d v → s ≡ byte " " ∷ byte d ∷ rest → P (g v rest)) → P (then (direction_of s) g e)
  unfolding direction_of vertical_of
  direction_by {g} is =
      let C : Front Bool → Type 0 = λ r. P (then r g e) in
      behind_by C (byte " ") s
      (λ u q. behind_by C (byte "h") u (λ r p. is "h" false r horizontal (q ∙ ap (λ l. byte " " ∷ l) p))
      (behind_by C (byte "v") u (λ r p. is "v" true r vertical (q ∙ ap (λ l. byte " " ∷ l) p)) not)) not

module _ (P : Said → Type 0) (not : P Unreadable) where
  pub ending_by : (rest : List ℕ) {k : Said} → (rest ≡ [] → P k) → P (ending Unreadable k rest)
  ending_by [] is = is refl
  ending_by (b ∷ rest) is = not

  pub label_by : (n : ℕ) {f : ℕ → Said} (rest : List ℕ) → length rest ≤ n
      → ((label : List ℕ) (at : ℕ) → HasLabel rest label → length label ≤ 16 → at + length label ≡ n → P (f at)) → P (labelled_row n f rest)
  unfolding labelled_row
  label_by n [] le is = is [] n none (omega arith) (omega arith)
  label_by n (b ∷ []) le is = not
  label_by n (b ∷ c ∷ l) le is =
      choose (eqb_reads b (byte " ")) P
      (λ q. choose (leb_reads (length (c ∷ l)) 16) P (λ few. is (c ∷ l) (n - length (c ∷ l)) (subst (λ x. HasLabel (x ∷ c ∷ l) (c ∷ l)) (sym q) some) few (omega arith)) (λ m. not))
      (λ m. not)

-- ---- every part is found

module _ {A : Type 0} {low high : ℕ} {f : ℤ → A} where
  pub held_is : {t rest : List ℕ} {a : A} → Stops rest → IsHeld low high f t a → fitted_field low high f (byte " " ∷ (t ++ rest)) ≡ found a rest
  unfolding fitted_field
  held_is stops (holds n q) = rw (field_is stops n, q)

  -- at the line's end
  pub held_last : {t : List ℕ} {a : A} → IsHeld low high f t a → fitted_field low high f (byte " " ∷ t) ≡ found a []
  held_last {t} h = ap (λ l. fitted_field low high f (byte " " ∷ l)) (sym (append-nil t)) ∙ held_is end h

pub direction_is : {d : Char} {v : Bool} (rest : List ℕ) → IsDirection d v → direction_of (byte " " ∷ byte d ∷ rest) ≡ found v rest
unfolding direction_of vertical_of
direction_is rest horizontal = refl
direction_is rest vertical = refl

pub label_stops : {rest label : List ℕ} → HasLabel rest label → Stops rest
label_stops none = end
label_stops some = space

pub label_is : (n : ℕ) (f : ℕ → Said) {rest label : List ℕ} {at : ℕ} → HasLabel rest label → length label ≤ 16 → at + length label ≡ n → labelled_row n f rest ≡ f at
unfolding labelled_row
label_is n f none few e = ap f (omega arith)
label_is n f some few e = rw (le-leb _ _ few) (ap f (omega arith))
