-- The edits under the translation: what `Sheets` says of lists, through tables and refusals.
use Prim.Native.Nat.{ℕ}
use mathlib.Core.Bool.{Bool, true, false, cond, ◌&&◌}
use mathlib.Core.Path.{◌≡◌, refl, sym, ap, ◌∙◌}
use lib.Dec.{leb, ltb, eqb}
use lib.IntN.{ℤ}
use lib.ListN.{length, length-map}
use lib.Signed.{le_z}
use Rattle.std.specs.List.{list_any}
use Rattle.lists.specs.First.{first_row}
use Rattle.lists.proofs.Mapped.{any_mapped, first_mapped}
use Rattle.edge.specs.Coordinates.{to_ℕ, ranged, size_of}
use Rattle.orientation.specs.Orientations.{eighth}
use Rattle.orientation.proofs.Turns.{known_number}
use Rattle.label.specs.declared.Label.{Label}
use Rattle.label.specs.Labels.{held_label}
use Rattle.symbol.specs.declared.Point.{Point}
use Rattle.symbol.proofs.Replies.{two_nested, wire_nested, pointer_nested, component_nested}
use Rattle.sheet.specs.declared.Component.{Component}
use Rattle.sheet.specs.declared.Drawing.{Drawing}
use Rattle.sheet.specs.declared.Tally.{Tally}
use Rattle.sheet.specs.Parts.{touches}
use Rattle.sheet.specs.Drawings.{lists_of}
use Rattle.sheet.specs.Edits
use Rattle.asked.specs.Asked.{wire_at, point_at, component_at}
use Rattle.edits.specs.Making.{room_reply, quiet}
use Rattle.redraw.specs.declared.Edited.{Edited}
use Rattle.redraw.specs.Calls as Number
use Rattle.four.specs.Plans.{Plan}
use Rattle.four.specs.Plans as Plans
use Rattle.four.specs.Edits as FourEdits
use Rattle.four.specs.Calls as Four
use Rattle.four.specs.Request1.{four, four_drawing, four_edited, SameEdits}
use Rattle.four.proofs.Sheets.{fours, four_outcome, same_tally, same_touch, same_wire, same_place, same_delete, same_turn, same_mirror}
use Rattle.four.proofs.Drawings.{lists_same, drawn_same}

module _ (d : Drawing) (t : Tally) where
  pub unless : (b : Bool) (n : ℕ) {e : Four.Edited} (f : Edited) → e ≡ four_edited f → Four.refused_unless b n (four_drawing d) t e ≡ four_edited (Number.refused_unless b n d t f)
  unless true n f q = q
  unless false n f q = refl

  done : (o : Edits.Outcome) → Four.edited (four_drawing d) t (four_outcome o) ≡ four_edited (Number.edited d t o)
  unfolding Number.edited Four.edited room_reply
  done o =
      let parts = leb (length o.sheet.parts) 128 in
      let wires = leb (length o.sheet.wires) 512 in
      (λ i. Four.refused_unless (leb (length-map o.sheet.parts four i) 128) 7 (four_drawing d) t (Four.refused_unless wires 11 (four_drawing d) t (Four.edit_done (four_outcome o))))
      ∙ unless parts 7 (Number.refused_unless wires 11 d t (Number.edit_done o))
      (unless wires 11 (Number.edit_done o) (λ i. record { reply = 0; tally = same_tally o.sheet i; drawing = drawn_same o.sheet i; hit = o.hit; lost = o.lost; row = 0 }))
      ∙ ap four_edited (sym (two_nested (λ n. Number.refused n d t) (Number.edit_done o) parts wires 7 11 refl refl))

  -- an outcome of the plan that is the translation of the sheet's
  after : {q : FourEdits.Outcome} (o : Edits.Outcome) → q ≡ four_outcome o → Four.edited (four_drawing d) t q ≡ four_edited (Number.edited d t o)
  after o e = ap (Four.edited (four_drawing d) t) e ∙ done o

  wired : (v : Bool) (line start end : ℤ) → Four.add_wire (four_drawing d) v line start end t ≡ four_edited (Number.add_wire d v line start end t)
  unfolding Number.add_wire Four.add_wire
  wired v line start end =
      let w = wire_at v line start end in
      let o : Edits.Outcome = quiet (Edits.wire w (lists_of d)) in
      unless (ranged 6000 line && (ranged 6000 start && ranged 6000 end)) 1 (Number.refused_unless (le_z start end) 2 d t (Number.edited d t o))
      (unless (le_z start end) 2 (Number.edited d t o)
      (after o (ap (λ (p : Plan). Four.quiet (FourEdits.wire w p)) (lists_same d) ∙ ap Four.quiet (same_wire w (lists_of d)))))
      ∙ ap four_edited (sym (wire_nested (λ r. Number.refused r d t) (Number.edited d t o) line start end))

  -- 6 is told of the same placements, with the same row
  touched : (c : Component) {e : Four.Edited} (f : Edited) → e ≡ four_edited f → Four.refused_touching (four c) (four_drawing d) t e ≡ four_edited (Number.refused_touching c d t f)
  touched c {e} f q =
      let D = four_drawing d in
      let cs = (lists_of d).parts in
      let some = ap (λ (p : Plan). list_any (Plans.touches (four c)) p.parts) (lists_same d) ∙ any_mapped four (Plans.touches (four c)) (touches c) (same_touch c) cs in
      let row = ap (λ (p : Plan). first_row (Plans.touches (four c)) p.parts) (lists_same d) ∙ first_mapped four (Plans.touches (four c)) (touches c) (same_touch c) cs in
      (λ i. cond (some i) (Four.refused_at (row i) 6 D t) (q i)) ∙ case (first_row (touches c) cs) (list_any (touches c) cs)
    where
      case : (r : ℕ) (b : Bool) → cond b (Four.refused_at r 6 (four_drawing d) t) (four_edited f) ≡ four_edited (cond b (Number.refused_at r 6 d t) f)
      case r true = refl
      case r false = refl

  placed : (kind n : ℕ) (x y : ℤ) (b : Label) → Four.add_component (four_drawing d) kind (eighth n) x y b t ≡ four_edited (Number.add_component d kind n x y b t)
  unfolding Number.add_component Four.add_component
  placed kind n x y b =
      let c = component_at kind n x y b in
      let s = lists_of d in
      let o : Edits.Outcome = quiet (Edits.place_one c s) in
      let e6 = Number.edited d t o in
      let e5 = Number.refused_touching c d t e6 in
      let e1 = Number.refused_unless (eqb (held_label b).reply 0) 5 d t e5 in
      let e4 = Number.refused_unless (ranged 5800 x && ranged 5800 y) 1 d t e1 in
      let rest = after o (ap (λ (p : Plan). Four.quiet (FourEdits.place_one (four c) p)) (lists_same d) ∙ ap Four.quiet (same_place c s)) in
      (λ i. Four.refused_unless (leb kind 2 && known_number n i) 4 (four_drawing d) t
      (Four.refused_unless (ranged 5800 x && ranged 5800 y) 1 (four_drawing d) t
      (Four.refused_unless (eqb (held_label b).reply 0) 5 (four_drawing d) t
      (Four.refused_touching (four c) (four_drawing d) t (Four.edited (four_drawing d) t (Four.quiet (FourEdits.place_one (four c) (Plans.lists_of (four_drawing d)))))))))
      ∙ unless (leb kind 2 && ltb n 8) 4 e4 (unless (ranged 5800 x && ranged 5800 y) 1 e1 (unless (eqb (held_label b).reply 0) 5 e5 (touched c e6 rest)))
      ∙ ap four_edited (sym (component_nested (λ r. Number.refused r d t) e5 kind n x y b))

  -- an edit at a pointer, f of the plan's lists and g of the sheet's
  pointed : (x y size : ℤ) (f : Point → ℕ → Plan → FourEdits.Outcome) (g : Point → ℕ → Edits.Outcome) → ((p : Point) (n : ℕ) → f p n (fours (lists_of d)) ≡ four_outcome (g p n))
      → Four.pointed (four_drawing d) x y size t (λ p n. f p n (Plans.lists_of (four_drawing d))) ≡ four_edited (Number.pointed d x y size t g)
  unfolding Number.pointed Four.pointed
  pointed x y size f g e =
      let p = point_at x y in
      let n = to_ℕ size in
      let o = g p n in
      unless (ranged 6000 x && ranged 6000 y) 1 (Number.refused_unless (eqb (size_of size).reply 0) 3 d t (Number.edited d t o))
      (unless (eqb (size_of size).reply 0) 3 (Number.edited d t o) (after o (ap (f p n) (lists_same d) ∙ e p n)))
      ∙ ap four_edited (sym (pointer_nested (λ r. Number.refused r d t) (Number.edited d t o) x y size))

pub same_edits : SameEdits
unfolding Number.delete_at Four.delete_at Number.rotate_at Four.rotate_at Number.mirror_at Four.mirror_at
same_edits = record {
  wire = λ d v line start end t. wired d t v line start end;
  place = λ d kind n x y b t. placed d t kind n x y b;
  delete = λ d x y size t. pointed d t x y size (λ p n q. Four.quiet (FourEdits.delete p n q)) (λ p n. quiet (Edits.delete p n (lists_of d))) (λ p n. ap Four.quiet (same_delete p n (lists_of d)));
  turn = λ d x y size t. pointed d t x y size FourEdits.turn_right (λ p n. Edits.turn_right p n (lists_of d)) (λ p n. same_turn p n (lists_of d));
  mirror = λ d x y size t. pointed d t x y size FourEdits.mirror (λ p n. Edits.mirror p n (lists_of d)) (λ p n. same_mirror p n (lists_of d));
}
