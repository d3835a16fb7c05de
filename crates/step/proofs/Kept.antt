-- "A refused edit returns the drawing received, with hit and lost 0": each of the five.
use mathlib.Core.Bool.{Bool}
use mathlib.Core.Path.{◌≡◌, refl}
use Prim.Native.Nat.{ℕ}
use lib.IntN.{ℤ}
use Rattle.label.specs.declared.Label.{Label}
use Rattle.symbol.specs.declared.Point.{Point}
use Rattle.sheet.specs.declared.Drawing.{Drawing}
use Rattle.sheet.specs.declared.Tally.{Tally}
use Rattle.sheet.specs.Edits.{Outcome}
use Rattle.asked.specs.Asked.{asked_part}
use Rattle.redraw.specs.declared.Edited.{Edited}
use Rattle.redraw.specs.Calls.{refused_at, edited, add_wire, add_component, pointed, delete_at, rotate_at, mirror_at}
use Rattle.redraw.proofs.Asking.{wire_decides, part_decides, pointer_decides}
use Rattle.redraw.proofs.Laws.{by_reply, by_room, by_touch}

pub record Kept (d : Drawing) (e : Edited) : Type 0 where
  pub drawing : (e.reply ≡ 0 → ⊥) → e.drawing ≡ d
  pub hit : (e.reply ≡ 0 → ⊥) → e.hit ≡ 0
  pub lost : (e.reply ≡ 0 → ⊥) → e.lost ≡ 0

module _ (d : Drawing) (t : Tally) where
  pub refused_kept : {row : ℕ} (n : ℕ) → Kept d (refused_at row n d t)
  refused_kept n = record { drawing = λ _. refl; hit = λ _. refl; lost = λ _. refl }

  edited_kept : (o : Outcome) → Kept d (edited d t o)
  edited_kept o = by_room (Kept d) o (λ p. refused_kept 7) (λ p w. refused_kept 11) (λ r. record { drawing = λ f. absurd (f refl); hit = λ f. absurd (f refl); lost = λ f. absurd (f refl) })

  pub wire_kept : (v : Bool) (l s e : ℤ) → Kept d (add_wire d v l s e t)
  wire_kept v l s e = by_reply (Kept d) (wire_decides d v l s e t refl) (λ f. refused_kept _) (λ z. edited_kept _)

  pub component_kept : (k : ℕ) (o : ℕ) (x y : ℤ) (b : Label) → Kept d (add_component d k o x y b t)
  component_kept k o x y b = by_reply (Kept d) (part_decides d k o x y b t refl) (λ f. refused_kept _)
      (λ z. by_touch (Kept d) d t (asked_part k o x y b).part (λ e. refused_kept 6) (λ e. edited_kept _))

  pointed_kept : (x y n : ℤ) (f : Point → ℕ → Outcome) → Kept d (pointed d x y n t f)
  pointed_kept x y n f = by_reply (Kept d) (pointer_decides d x y n t f refl) (λ g. refused_kept _) (λ z. edited_kept _)

  pub delete_kept : (x y n : ℤ) → Kept d (delete_at d x y n t)
  unfolding delete_at
  delete_kept x y n = pointed_kept x y n _

  pub rotate_kept : (x y n : ℤ) → Kept d (rotate_at d x y n t)
  unfolding rotate_at
  rotate_kept x y n = pointed_kept x y n _

  pub mirror_kept : (x y n : ℤ) → Kept d (mirror_at d x y n t)
  unfolding mirror_at
  mirror_kept x y n = pointed_kept x y n _
