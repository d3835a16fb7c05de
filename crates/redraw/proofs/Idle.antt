-- What edits do not do: lose more than they hit; need more room for a delete; change a drawing by a wire of zero length, or where nothing is
-- met.
use Prim.Native.Nat.{ℕ, ◌≤◌}
use native.Mathlib.Omega.{arith}
use mathlib.Core.Bool.{Bool, true, not}
use mathlib.Core.List.{List}
use mathlib.Core.Path.{◌≡◌, refl, sym, ap, ◌∙◌}
use lib.Dec.{T, eqb}
use lib.IntN.{ℤ}
use lib.Signed.{le_z, ≤ℤ_refl}
use Rattle.lists.specs.Lists.{◌∈◌}
use Rattle.lists.proofs.Appends.{length_keep}
use Rattle.lists.proofs.Tests.{agree}
use Rattle.edge.specs.Coordinates.{to_ℕ, ranged, size_of}
use Rattle.symbol.specs.declared.Point.{Point}
use Rattle.symbol.specs.Replies.{point_reply, wire_reply, pointer_reply}
use Rattle.sheet.specs.declared.Wire.{Wire}
use Rattle.sheet.specs.declared.Component.{Component}
use Rattle.sheet.specs.declared.Drawing.{Drawing}
use Rattle.sheet.specs.declared.Tally.{Tally}
use Rattle.sheet.specs.Parts.{pads_of, turned_right, mirrored}
use Rattle.sheet.specs.Drawings.{Sheet, Sized, lists_of, tally_of}
use Rattle.sheet.proofs.Wiring.{Roomy}
use Rattle.sheet.specs.Rules.{Lawful}
use Rattle.sheet.specs.Edits.{wire, remove, delete, meets_part, meets_wire, hits, turn_right, mirror}
use Rattle.sheet.proofs.Rules.{lawful_good, lawful_room, lawful_drawn}
use Rattle.sheet.proofs.Edits.{remove_nothing}
use Rattle.sheet.proofs.Run.{drawn_idle}
use Rattle.sheet.proofs.Room.{remove_no_longer}
use Rattle.sheet.proofs.Turn.{turn_lost, turn_nothing}
use Rattle.asked.specs.Asked.{wire_at, point_at}
use Rattle.edits.specs.Making.{quiet}
use Rattle.redraw.specs.declared.Edited.{Edited}
use Rattle.redraw.specs.declared.pointer.Act.{Act}
use Rattle.redraw.specs.declared.pointer.Act.TheVariants.{Delete, TurnRight, Mirror}
use Rattle.redraw.specs.Acts.{acted}
use Rattle.redraw.specs.Calls.{still, edited, add_wire, pointed}
use Rattle.redraw.proofs.Finishing.{edited_room}
use Rattle.redraw.proofs.Asking.{pointer_decides}
use Rattle.redraw.proofs.Laws.{by_reply, by_room}

abbrev Outweighed : Edited → Type 0
Outweighed e = e.lost ≤ e.hit

module _ {d : Drawing} (l : Lawful d) (t : Tally) where
  -- ---- hit and lost

  acted_lost : (a : Act) (p : Point) (n : ℕ) (s : Sheet) → (acted a p n s).lost ≤ (acted a p n s).hit
  unfolding turn_right mirror
  acted_lost Delete p n s = omega arith
  acted_lost TurnRight p n s = turn_lost (hits p n) turned_right s
  acted_lost Mirror p n s = turn_lost (hits p n) mirrored s

  -- no more are lost than are hit
  pub act_lost : (a : Act) (x y n : ℤ) → (pointed d x y n t (λ p m. acted a p m (lists_of d))).lost ≤ (pointed d x y n t (λ p m. acted a p m (lists_of d))).hit
  act_lost a x y n =
      by_reply Outweighed (pointer_decides d x y n t (λ p m. acted a p m (lists_of d)) refl) (λ f. omega arith) (λ z. by_room Outweighed (acted a _ _ (lists_of d)) (λ p. omega arith) (λ p w. omega arith) (λ r. acted_lost a _ _ (lists_of d)))

  -- ---- a delete always has room

  pub delete_room : (p : Point) (n : ℕ) → Roomy (delete p n (lists_of d))
  unfolding delete
  delete_room p n = record {
    wires = omega (arith, remove_no_longer (meets_wire p n) (meets_part p n) (lists_of d), (lawful_room l).wires);
    parts = unfold remove in omega (arith, length_keep (λ c. not (meets_part p n c)) (lists_of d).parts, (lawful_room l).parts);
  }

  -- ---- nothing changes

  pub still_is : Sized d → edited d t (quiet (lists_of d)) ≡ still d
  still_is z = edited_room d t (quiet (lists_of d)) (lawful_room l) ∙ (λ i. record { reply = 0; tally = tally_of (lists_of d); drawing = sym (lawful_drawn l z) i; hit = 0; lost = 0; row = 0 })

  -- "A zero-length wire inside the range gives 0 and the drawing as it was"
  pub wire_idle : Sized d → (v : Bool) (a s : ℤ) → ranged 6000 a ≡ true → ranged 6000 s ≡ true → add_wire d v a s s t ≡ still d
  unfolding add_wire wire_reply wire
  wire_idle z v a s p q =
      let e : le_z s s ≡ true = agree (le_z s s) true (λ u. tt) (λ u. (≤ℤ_refl s).le) in
      rw (p, q, e) (ap (λ (ws : List Wire). edited d t (quiet (record { wires = ws; parts = (lists_of d).parts }))) (drawn_idle (wire_at v a s s) refl (lists_of d).wires (pads_of (lists_of d).parts)) ∙ still_is z)

  -- the square meets nothing that the act is about
  abbrev pub Misses : Act → Point → ℕ → Type 0
  Misses Delete p n = ((w : Wire) → w ∈ (lists_of d).wires → T (meets_wire p n w) → ⊥) × ((c : Component) → c ∈ (lists_of d).parts → T (meets_part p n c) → ⊥)
  Misses TurnRight p n = (c : Component) → c ∈ (lists_of d).parts → T (hits p n c) → ⊥
  Misses Mirror p n = (c : Component) → c ∈ (lists_of d).parts → T (hits p n c) → ⊥

  missed : (a : Act) (p : Point) (n : ℕ) → Misses a p n → acted a p n (lists_of d) ≡ quiet (lists_of d)
  unfolding delete turn_right mirror
  missed Delete p n m = ap quiet (remove_nothing (meets_wire p n) (meets_part p n) (lists_of d) (lawful_good l) m.0 m.1)
  missed TurnRight p n m = turn_nothing (hits p n) turned_right (lists_of d) (lawful_good l) m
  missed Mirror p n m = turn_nothing (hits p n) mirrored (lists_of d) (lawful_good l) m

  -- "A delete, turn or mirror that hits nothing gives 0."
  pub act_idle : Sized d → (a : Act) (x y n : ℤ) → ranged 6000 x ≡ true → ranged 6000 y ≡ true → eqb (size_of n).reply 0 ≡ true → Misses a (point_at x y) (to_ℕ n) → pointed d x y n t (λ p m. acted a p m (lists_of d)) ≡ still d
  unfolding pointed pointer_reply point_reply
  act_idle z a x y n p q r m = rw (p, q, r) (ap (edited d t) (missed a (point_at x y) (to_ℕ n) m) ∙ still_is z)
