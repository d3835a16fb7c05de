-- Reply 0 gives a lawful drawing, and a tally that adds up.
use Prim.Native.Nat.{ℕ, ◌+◌, ◌*◌, ◌≤◌, ◌<◌}
use native.Mathlib.Omega.{arith}
use mathlib.Core.Bool.{Bool, true, false, cond}
use mathlib.Core.Path.{◌≡◌, refl, sym, ap, subst}
use mathlib.Core.Logic.{⊎_elim}
use lib.IntN.{ℤ}
use lib.ListN.{length}
use Rattle.std.specs.List.{list_any}
use Rattle.lists.specs.First.{first_row}
use Rattle.lists.proofs.Tests.{decide, eqb_reads}
use Rattle.label.specs.declared.Label.{Label}
use Rattle.sheet.specs.declared.Component.{Component}
use Rattle.sheet.specs.declared.Drawing.{Drawing}
use Rattle.sheet.specs.declared.Tally.{Tally}
use Rattle.sheet.specs.Parts.{pads_of, touches}
use Rattle.sheet.specs.Drawings.{Sheet, lists_of, tally_of}
use Rattle.sheet.proofs.Wiring.{Good, Roomy}
use Rattle.sheet.specs.Rules.{Lawful}
use Rattle.sheet.specs.Edits.{Outcome, place_one}
use Rattle.sheet.proofs.Rules.{lawful_good, drawn_lists, drawn_lawful}
use Rattle.sheet.proofs.Edits.{wire_good}
use Rattle.sheet.proofs.Totals.{tally_sum}
use Rattle.asked.specs.Asked.{asked_part}
use Rattle.asked.proofs.Within.{wire_drawable, part_fits}
use Rattle.edits.specs.Making.{quiet}
use Rattle.edits.proofs.Making.{Room, enough, parts_over, wires_over, room_told}
use Rattle.redraw.specs.declared.Edited.{Edited}
use Rattle.redraw.specs.declared.pointer.Act.{Act}
use Rattle.redraw.specs.declared.pointer.Act.TheVariants.{Delete, TurnRight, Mirror}
use Rattle.redraw.specs.Acts.{acted}
use Rattle.redraw.specs.Calls.{refused_at, refused, refused_by, refused_touching, edit_done, edited, add_wire, add_component, pointed, delete_at, rotate_at, mirror_at}
use Rattle.redraw.proofs.Asking.{Decides, wire_decides, part_decides, pointer_decides}
use Rattle.redraw.proofs.Keeping.{placed_good, acted_good}

-- ---- by the reply

-- what holds of the refusal and of what is made holds of the call
pub by_reply : (P : Edited → Type 0) {d : Drawing} {t : Tally} {n : ℕ} {x call : Edited} → Decides d t n x call → ((n ≡ 0 → ⊥) → P (refused n d t)) → (n ≡ 0 → P x) → P call
by_reply P {n = n} D f g = ⊎_elim (λ (e : n ≡ 0). subst P (D.makes e) (g e)) (λ (h : n ≡ 0 → ⊥). subst P (D.refuses h) (f h)) (decide (eqb_reads n 0))

-- by which room there is not
pub by_room : (P : Edited → Type 0) {d : Drawing} {t : Tally} (o : Outcome)
    → (128 < length o.sheet.parts → P (refused 7 d t)) → (length o.sheet.parts ≤ 128 → 512 < length o.sheet.wires → P (refused 11 d t))
    → (Roomy o.sheet → P (edit_done o)) → P (edited d t o)
unfolding edited
by_room P {d} {t} o f g h = go (room_told o.sheet)
  where
    go : {n : ℕ} → Room o.sheet n → P (refused_by n d t (edit_done o))
    go (parts_over p) = f p
    go (wires_over p w) = g p w
    go (enough r) = h r

-- by whether a placed component is touched
pub by_touch : (P : Edited → Type 0) (d : Drawing) (t : Tally) (c : Component) {x : Edited}
    → (list_any (touches c) (lists_of d).parts ≡ true → P (refused_at (first_row (touches c) (lists_of d).parts) 6 d t))
    → (list_any (touches c) (lists_of d).parts ≡ false → P x) → P (refused_touching c d t x)
by_touch P d t c {x} f g = go (list_any (touches c) (lists_of d).parts) f g
  where
    go : {y : Edited} (b : Bool) → (b ≡ true → P y) → (b ≡ false → P x) → P (cond b y x)
    go true f g = f refl
    go false f g = g refl

-- ---- reply 0

-- a lawful drawing, and "that sum equals twice the wires plus the pads"
pub record Fine (e : Edited) : Type 0 where
  pub lawful : Lawful e.drawing
  pub tally : e.tally ≡ tally_of (lists_of e.drawing)
  pub sum : e.tally.ends ≡ 2 * length (lists_of e.drawing).wires + length (pads_of (lists_of e.drawing).parts)

abbrev pub Accepted : Edited → Type 0
Accepted e = e.reply ≡ 0 → Fine e

done_fine : (o : Outcome) → Roomy o.sheet → Good o.sheet → Fine (edit_done o)
done_fine o r g =
    let e = drawn_lists o.sheet in
    record { lawful = drawn_lawful r g; tally = ap tally_of (sym e); sum = subst (λ (s : Sheet). (tally_of o.sheet).ends ≡ 2 * length s.wires + length (pads_of s.parts)) (sym e) (tally_sum o.sheet) }

edited_fine : (d : Drawing) (t : Tally) (o : Outcome) → Good o.sheet → Accepted (edited d t o)
edited_fine d t o g = by_room Accepted o (λ p z. absurd (omega arith)) (λ p w z. absurd (omega arith)) (λ r z. done_fine o r g)

module _ {d : Drawing} (l : Lawful d) (t : Tally) where
  pub wire_accepted : (v : Bool) (a s e : ℤ) → Accepted (add_wire d v a s e t)
  wire_accepted v a s e = by_reply Accepted (wire_decides d v a s e t refl) (λ f z. absurd (f z)) (λ z. edited_fine d t _ (wire_good _ (lists_of d) (wire_drawable v a s e refl z) (lawful_good l)))

  pub component_accepted : (k : ℕ) (o : ℕ) (x y : ℤ) (b : Label) → Accepted (add_component d k o x y b t)
  component_accepted k o x y b = by_reply Accepted (part_decides d k o x y b t refl) (λ f z. absurd (f z)) (λ z. let c = (asked_part k o x y b).part in
      by_touch Accepted d t c {x = edited d t (quiet (place_one c (lists_of d)))} (λ e f. absurd (omega arith)) (λ e. edited_fine d t _ (placed_good c (lists_of d) (part_fits k o x y b refl z) (lawful_good l) e)))

  pub act_accepted : (a : Act) (x y n : ℤ) → Accepted (pointed d x y n t (λ p m. acted a p m (lists_of d)))
  act_accepted a x y n = by_reply Accepted (pointer_decides d x y n t (λ p m. acted a p m (lists_of d)) refl) (λ f z. absurd (f z)) (λ z. edited_fine d t _ (acted_good a _ _ (lists_of d) (lawful_good l)))

  pub delete_accepted : (x y n : ℤ) → Accepted (delete_at d x y n t)
  unfolding delete_at
  delete_accepted = act_accepted Delete

  pub rotate_accepted : (x y n : ℤ) → Accepted (rotate_at d x y n t)
  unfolding rotate_at
  rotate_accepted = act_accepted TurnRight

  pub mirror_accepted : (x y n : ℤ) → Accepted (mirror_at d x y n t)
  unfolding mirror_at
  mirror_accepted = act_accepted Mirror
