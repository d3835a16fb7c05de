-- What is asked decides whether the edit is refused or made.
use Prim.Native.Nat.{ℕ}
use native.Mathlib.Omega.{arith}
use mathlib.Core.Bool.{Bool, true, false, cond}
use mathlib.Core.Path.{◌≡◌, refl, sym, ap, subst, ◌∙◌}
use borrow.Author.Tests.{eq-eqb, ne_eqb}
use lib.IntN.{ℤ}
use mir.Syntax.{w32}
use mir.Val.{SFits, to_z, of_z}
use Rattle.std.specs.List.{list_any}
use Rattle.lists.specs.First.{first_row}
use Rattle.lists.proofs.Tests.{Reads, pass, fail, eqb_reads}
use Rattle.refusal.specs.Numbers.{number_of}
use Rattle.refusal.specs.declared.Refusal.{Refusal}
use Rattle.refusal.proofs.Numbers.{refuses}
use Rattle.edge.specs.Coordinates.{to_ℕ}
use Rattle.symbol.specs.Replies.{wire_reply, pointer_reply, component_reply}
use Rattle.label.specs.declared.Label.{Label}
use Rattle.symbol.specs.declared.Point.{Point}
use Rattle.sheet.specs.declared.Drawing.{Drawing}
use Rattle.sheet.specs.declared.Tally.{Tally}
use Rattle.sheet.specs.Parts.{touches}
use Rattle.sheet.specs.Drawings.{lists_of}
use Rattle.sheet.specs.Edits.{Outcome, wire, place_one}
use Rattle.asked.specs.Asked.{AskedWire}
use Rattle.asked.specs.Asked.{AskedPart}
use Rattle.asked.specs.Asked.{AskedPointer}
use Rattle.asked.specs.Asked.{wire_at, no_wire, asked_wire, component_at, no_part, asked_part, point_at, no_pointer, asked_pointer}
use Rattle.asked.proofs.Handed.{handed_two, handed_three}
use Rattle.edits.specs.Making.{quiet}
use Rattle.redraw.specs.declared.Edited.{Edited}
use Rattle.redraw.specs.Calls.{refused_at, refused, refused_by, refused_unless, refused_touching, edited, add_wire, add_component, pointed}

-- the reply n decides the call: refused, or x
pub record Decides (d : Drawing) (t : Tally) (n : ℕ) (x call : Edited) : Type 0 where
  pub refuses : (n ≡ 0 → ⊥) → refused n d t ≡ call
  pub makes : n ≡ 0 → x ≡ call

module _ {d : Drawing} {t : Tally} where
  made : {x : Edited} → Decides d t 0 x x
  made = record { refuses = λ f. absurd (f refl); makes = λ e. refl }

  not_made : {n : ℕ} {x : Edited} → (n ≡ 0 → ⊥) → Decides d t n x (refused n d t)
  not_made f = record { refuses = λ g. refl; makes = λ e. absurd (f e) }

  pub decides : (n : ℕ) (x : Edited) → Decides d t n x (refused_by n d t x)
  decides n x = record { refuses = λ f. rw (ne_eqb n 0 f); makes = λ e. rw (eq-eqb n 0 e) }

pub wire_decides : (d : Drawing) (v : Bool) (l s e : ℤ) (t : Tally) {a : AskedWire} → a ≡ asked_wire v l s e → Decides d t a.reply (edited d t (quiet (wire a.wire (lists_of d)))) (add_wire d v l s e t)
unfolding add_wire asked_wire
wire_decides d v l s e t q = subst (λ (a : AskedWire). Decides d t a.reply (X a) (add_wire d v l s e t)) (sym q) (go (eqb_reads (wire_reply l s e) 0))
  where
    X : AskedWire → Edited
    X a = edited d t (quiet (wire a.wire (lists_of d)))

    W : AskedWire
    W = record { reply = 0; wire = wire_at v l s e }

    go : {n : ℕ} {b : Bool} → Reads (n ≡ 0) b → Decides d t (cond b W (no_wire n)).reply (X (cond b W (no_wire n))) (refused_unless b n d t (X W))
    go (pass z) = made
    go (fail f) = not_made f

-- the component that is asked for is refused if it touches another
abbrev pub untouched : Drawing → Tally → AskedPart → Edited
untouched d t a = refused_touching a.part d t (edited d t (quiet (place_one a.part (lists_of d))))

pub part_decides : (d : Drawing) (k : ℕ) (o : ℕ) (x y : ℤ) (l : Label) (t : Tally) {a : AskedPart} → a ≡ asked_part k o x y l → Decides d t a.reply (untouched d t a) (add_component d k o x y l t)
unfolding add_component asked_part
part_decides d k o x y l t q = subst (λ (a : AskedPart). Decides d t a.reply (untouched d t a) (add_component d k o x y l t)) (sym q) (go (eqb_reads (component_reply k o x y l) 0))
  where
    P : AskedPart
    P = record { reply = 0; part = component_at k o x y l }

    go : {n : ℕ} {b : Bool} → Reads (n ≡ 0) b → Decides d t (cond b P (no_part n)).reply (untouched d t (cond b P (no_part n))) (refused_unless b n d t (untouched d t P))
    go (pass z) = made
    go (fail f) = not_made f

module _ (d : Drawing) (t : Tally) (a : AskedPart) where
  pub touched_refused : {row : ℕ} → row ≡ first_row (touches a.part) (lists_of d).parts → list_any (touches a.part) (lists_of d).parts ≡ true → refused_at row 6 d t ≡ untouched d t a
  touched_refused q e = (λ i. refused_at (q i) 6 d t) ∙ rw e

  pub untouched_edited : list_any (touches a.part) (lists_of d).parts ≡ false → edited d t (quiet (place_one a.part (lists_of d))) ≡ untouched d t a
  untouched_edited e = rw e

pub pointer_decides : (d : Drawing) (x y n : ℤ) (t : Tally) (edit : Point → ℕ → Outcome) {a : AskedPointer} → a ≡ asked_pointer x y n → Decides d t a.reply (edited d t (edit a.point a.size)) (pointed d x y n t edit)
unfolding asked_pointer pointed
pointer_decides d x y n t edit q = subst (λ (a : AskedPointer). Decides d t a.reply (X a) (pointed d x y n t edit)) (sym q) (go (eqb_reads (pointer_reply x y n) 0))
  where
    X : AskedPointer → Edited
    X a = edited d t (edit a.point a.size)

    P : AskedPointer
    P = record { reply = 0; point = point_at x y; size = to_ℕ n }

    go : {m : ℕ} {b : Bool} → Reads (m ≡ 0) b → Decides d t (cond b P (no_pointer m)).reply (X (cond b P (no_pointer m))) (refused_unless b m d t (X P))
    go (pass z) = made
    go (fail f) = not_made f

-- ---- refusals, of numbers as `asked` gets them

module _ (d : Drawing) (t : Tally) {r : Edited} (x : Refusal) {n : ℕ} (m : n ≡ number_of x) (h : r ≡ refused n d t) where
  by_number : r ≡ refused (number_of x) d t
  by_number = h ∙ ap (λ k. refused k d t) m

  refuses_it : number_of x ≡ 0 → ⊥
  refuses_it e = let k = refuses x in omega arith

  pub wire_not_asked : (v : Bool) {l s e : ℤ} → SFits w32 l → SFits w32 s → SFits w32 e
      → no_wire (number_of x) ≡ asked_wire v (to_z w32 (of_z w32 l)) (to_z w32 (of_z w32 s)) (to_z w32 (of_z w32 e)) → r ≡ add_wire d v l s e t
  wire_not_asked v {l} {s} {e} p q u f = by_number ∙ (wire_decides d v l s e t (f ∙ handed_three (asked_wire v) l s e p q u)).refuses refuses_it

  pub part_not_asked : (k o : ℕ) {x' y : ℤ} (l : Label) → SFits w32 x' → SFits w32 y
      → no_part (number_of x) ≡ asked_part k o (to_z w32 (of_z w32 x')) (to_z w32 (of_z w32 y)) l → r ≡ add_component d k o x' y l t
  part_not_asked k o {x'} {y} l p q f = by_number ∙ (part_decides d k o x' y l t (f ∙ handed_two (λ x y. asked_part k o x y l) x' y p q)).refuses refuses_it

  pub pointer_not_asked : {x' y z : ℤ} (edit : Point → ℕ → Outcome) → SFits w32 x' → SFits w32 y → SFits w32 z
      → no_pointer (number_of x) ≡ asked_pointer (to_z w32 (of_z w32 x')) (to_z w32 (of_z w32 y)) (to_z w32 (of_z w32 z)) → r ≡ pointed d x' y z t edit
  pointer_not_asked {x'} {y} {z} edit p q u f = by_number ∙ (pointer_decides d x' y z t edit (f ∙ handed_three asked_pointer x' y z p q u)).refuses refuses_it
