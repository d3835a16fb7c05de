-- P14 holds: below the check by the laws of sheets, and of the public calls because an accepted edit gives a lawful drawing.
use native.Mathlib.Omega.{arith}
use mathlib.Core.Bool.{Bool}
use mathlib.Core.Path.{◌≡◌, refl, sym, ap, subst, ◌∙◌}
use lib.IntN.{ℤ}
use lib.ListN.{length, length-map}
use Rattle.lists.proofs.Tests.{passes, eqb_reads}
use Rattle.sheet.specs.declared.Drawing.{Drawing}
use Rattle.sheet.specs.declared.Tally.{Tally}
use Rattle.sheet.specs.Drawings.{Sheet, lists_of, drawn}
use Rattle.sheet.specs.Rules.{Lawful}
use Rattle.sheet.specs.Edits.{wire, mirror}
use Rattle.sheet.proofs.Rules.{lawful_good, drawn_lists}
use Rattle.sheet.proofs.Edits.{wire_again}
use Rattle.sheet.proofs.Turn.{mirror_safe, mirror_parts}
use Rattle.asked.specs.Asked.{asked_wire}
use Rattle.asked.proofs.Within.{wire_drawable}
use Rattle.edits.specs.Making.{quiet}
use Rattle.redraw.specs.declared.Edited.{Edited}
use Rattle.redraw.specs.Calls.{edited, add_wire, mirror_at}
use Rattle.redraw.proofs.Finishing.{edited_room}
use Rattle.redraw.proofs.Asking.{wire_decides, pointer_decides}
use Rattle.redraw.proofs.Laws.{by_reply, by_room, wire_accepted}
use Rattle.schematic.specs.Calls.{checked}
use Rattle.schematic.proofs.Checking.{lawful_passes}
use Rattle.lent.specs.Noting.{noted}
use Rattle.lent.proofs.Noting.{taken}
use Rattle.promises.specs.Request14.{SameAgain, NothingLost, Request14}

-- ---- drawing over a line

module _ (t u : Tally) where
  same_again : (first : Edited) {second : Edited} → first.reply ≡ 0 → second ≡ first → SameAgain t u first second
  same_again first z e = record { answer = e; lent = ap (noted u) e ∙ sym (written u) ∙ written t }
    where
      written : (h : Tally) → first.tally ≡ noted h first
      written h = taken h first (passes (eqb_reads first.reply 0) z)

  module _ (v : Bool) (a s e : ℤ) where
    -- what is to be shown of the first answer, if a call is made again
    abbrev Over : (Drawing → Edited) → Edited → Type 0
    Over call r = r.reply ≡ 0 → SameAgain t u r (call r.drawing)

    module _ {d : Drawing} (l : Lawful d) where
      twice : Over (λ x. add_wire x v a s e u) (add_wire d v a s e t)
      twice = by_reply (Over (λ x. add_wire x v a s e u)) (wire_decides d v a s e t refl) (λ f z. absurd (f z)) (λ k.
          let n = (asked_wire v a s e).wire in
          let f = wire_drawable v a s e refl k in
          by_room (Over (λ x. add_wire x v a s e u)) (quiet (wire n (lists_of d))) (λ p z. absurd (omega arith)) (λ p w z. absurd (omega arith)) (λ r z. same_again _ z (
          sym ((wire_decides (drawn (wire n (lists_of d))) v a s e u refl).makes k)
          ∙ ap (λ (x : Sheet). edited (drawn (wire n (lists_of d))) u (quiet (wire n x))) (drawn_lists (wire n (lists_of d)))
          ∙ ap (λ (x : Sheet). edited (drawn (wire n (lists_of d))) u (quiet x)) (wire_again n (lists_of d) f (lawful_good l))
          ∙ edited_room (drawn (wire n (lists_of d))) u (quiet (wire n (lists_of d))) r)))

      public_twice : Over (λ x. checked x u (add_wire x v a s e u)) (checked d t (add_wire d v a s e t))
      public_twice = subst (Over (λ x. checked x u (add_wire x v a s e u))) (lawful_passes l t (add_wire d v a s e t)) (λ z.
          same_again _ z (sym (lawful_passes (wire_accepted l t v a s e z).lawful u _) ∙ (twice z).answer))

-- ---- mirror never loses

module _ {d : Drawing} (l : Lawful d) (x y n : ℤ) (t : Tally) where
  -- a refusal gives the drawing received
  refusal : {r : Edited} → r.drawing ≡ d → r.lost ≡ 0 → NothingLost d r
  refusal e f = record { lost = f; components = ap (λ (k : Drawing). length (lists_of k).parts) e }

  nothing_lost : NothingLost d (mirror_at d x y n t)
  unfolding mirror_at
  nothing_lost = by_reply (NothingLost d) (pointer_decides d x y n t (λ p m. mirror p m (lists_of d)) refl) (λ f. refusal refl refl) (λ z.
      by_room (NothingLost d) (mirror _ _ (lists_of d)) (λ p. refusal refl refl) (λ p w. refusal refl refl) (λ r. record {
        lost = mirror_safe _ _ (lists_of d) (lawful_good l);
        components = ap (λ (s : Sheet). length s.parts) (drawn_lists (mirror _ _ (lists_of d)).sheet) ∙ ap length (mirror_parts _ _ (lists_of d) (lawful_good l)) ∙ length-map (lists_of d).parts _;
      }))

pub request_14 : Request14
request_14 = record {
  wire_on = λ d l v a s e t u. twice t u v a s e l;
  wire = λ d l v a s e t u. public_twice t u v a s e l;
  mirror_on = λ d l x y n t. nothing_lost l x y n t;
  mirror = λ d l x y n t. subst (NothingLost d) (lawful_passes l t (mirror_at d x y n t)) (nothing_lost l x y n t);
}
