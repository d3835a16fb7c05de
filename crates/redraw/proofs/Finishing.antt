-- From what an edit made to its answer: 7 or 11 where there is no room, else the drawing of the sheet and its tally.
use Prim.Native.Nat.{ℕ}
use native.Mathlib.Omega.{arith}
use mathlib.Core.List.Memᴰ.{not-nil as ∈-nil}
use mathlib.Core.List.{List, []}
use mathlib.Core.Path.{◌≡◌, refl, sym, ap, subst, ◌∙◌}
use Rattle.lists.specs.Lists.{◌∈◌}
use Rattle.lists.proofs.Tables.{holds_self, holds_list}
use Rattle.symbol.specs.Replies.{granted}
use Rattle.sheet.specs.declared.Component.{Component}
use Rattle.sheet.specs.Tables.{Wires}
use Rattle.sheet.specs.Tables.{Components}
use Rattle.sheet.specs.declared.Drawing.{Drawing}
use Rattle.sheet.specs.declared.Tally.{Tally}
use Rattle.sheet.specs.Parts.{PartFits}
use Rattle.sheet.specs.Drawings.{Sheet, empty_sheet, joints, wire_table, component_table, joint_table, lists_of, drawn, tally_of}
use Rattle.sheet.proofs.Wiring.{Roomy}
use Rattle.sheet.specs.Edits.{Outcome}
use Rattle.sheet.proofs.Rules.{drawn_lists}
use Rattle.wires.specs.Tables.{Tabled}
use Rattle.parts.specs.Tables.{TabledParts}
use Rattle.joints.specs.Tables.{sheet_of, Sound, Counted}
use Rattle.std.specs.Prelude.{Result, Ok, Err, IfOk}
use Rattle.refusal.specs.declared.Refusal.{Refusal}
use Rattle.edits.specs.declared.Made.{Made as Tables}
use Rattle.edits.specs.Making.{Made, room_reply, tables, no_room, told, made}
use Rattle.edits.proofs.Making.{Room, enough, parts_over, wires_over, room_told, room_is, room_zero, made_by, made_reply}
use Rattle.redraw.specs.declared.Edited.{Edited}
use Rattle.redraw.specs.Calls.{refused, edit_done, edited}
use Rattle.redraw.proofs.Asking.{Decides, decides}

module _ (d : Drawing) (t : Tally) (o : Outcome) where
  room_decides : Decides d t (room_reply o.sheet) (edit_done o) (edited d t o)
  unfolding edited
  room_decides = decides (room_reply o.sheet) (edit_done o)

  pub edited_room : Roomy o.sheet → edited d t o ≡ edit_done o
  edited_room r = sym (room_decides.makes (room_is (enough r)))

-- ---- tables of a sheet

tables_sheet : (s : Sheet) → sheet_of (wire_table s.wires) (component_table s.parts) ≡ s
unfolding drawn
tables_sheet s = drawn_lists s

tables_sound : (s : Sheet) → Roomy s → ((c : Component) → c ∈ s.parts → PartFits c) → Sound (wire_table s.wires) (component_table s.parts)
tables_sound s r fits =
    let w : Tabled s.wires (wire_table s.wires) = record { rows_are = refl; count_is = refl; room = r.wires } in
    let p : TabledParts s.parts (component_table s.parts) = record { rows_are = refl; count_is = refl; room = r.parts } in
    record { wires = holds_self w; parts = holds_self p; fits = record { room = r.parts; each = λ c m. fits c (subst (λ (l : List Component). c ∈ l) (holds_list p) m) } }

-- what an edit made can be drawn
pub made_sound : (o : Outcome) → ((c : Component) → c ∈ o.sheet.parts → PartFits c) → {e : Made} → e ≡ made o → Sound e.wires e.parts
unfolding made
made_sound o each q = subst (λ (x : Made). Sound x.wires x.parts) (sym q) (go (room_told o.sheet))
  where
    none : Sound (wire_table []) (component_table [])
    none = tables_sound empty_sheet (record { wires = omega arith; parts = omega arith }) (λ c m. absurd (∈-nil m))

    go : {n : ℕ} → Room o.sheet n → let x : Made = granted n no_room (tables o) in Sound x.wires x.parts
    go (enough r) = tables_sound o.sheet r each
    go (parts_over p) = none
    go (wires_over p w) = none

pub told_sound : (o : Outcome) → ((c : Component) → c ∈ o.sheet.parts → PartFits c) → (r : Result Tables Refusal) → told r ≡ made o → IfOk r (λ e. Sound e.wires e.parts)
told_sound o each (Ok e) q = made_sound o each q
told_sound o each (Err r) q = tt

pub sound_counted : {ws : Wires} {cs : Components} {w : Drawing} → Sound ws cs → w ≡ drawn (sheet_of ws cs) → Counted w
unfolding drawn
sound_counted {ws} {cs} s e = subst Counted (sym e) (record { wires = s.wires.room; parts = s.parts.room; joints_are = ap (λ (x : Sheet). joint_table (joints x)) (sym (drawn_lists (sheet_of ws cs))) })

-- ---- the answer

module _ (d : Drawing) (t : Tally) {e : Made} (o : Outcome) (q : e ≡ made o) where
  reply_is : e.reply ≡ room_reply o.sheet
  reply_is = ap (λ (x : Made). x.reply) q ∙ made_reply o

  pub finished_full : (e.reply ≡ 0 → ⊥) → refused e.reply d t ≡ edited d t o
  finished_full f = (λ i. refused (reply_is i) d t) ∙ (room_decides d t o).refuses (λ z. f (reply_is ∙ z))

  has_room : e.reply ≡ 0 → Roomy o.sheet
  has_room z = room_zero (sym reply_is ∙ z)

  pub finished_room : {w : Drawing} {u : Tally} → e.reply ≡ 0 → w ≡ drawn (sheet_of e.wires e.parts) → u ≡ tally_of (lists_of w) → ◌≡◌ {A = Edited} (record { reply = 0; tally = u; drawing = w; hit = e.hit; lost = e.lost; row = 0 }) (edited d t o)
  finished_room {w} {u} f p k =
      let m : e ≡ tables o = q ∙ made_by o (enough (has_room f)) in
      let a : w ≡ drawn o.sheet = p ∙ ap (λ (x : Made). drawn (sheet_of x.wires x.parts)) m ∙ ap drawn (tables_sheet o.sheet) in
      let b : u ≡ tally_of o.sheet = k ∙ ap (λ (x : Drawing). tally_of (lists_of x)) a ∙ ap tally_of (drawn_lists o.sheet) in
      (λ i. record { reply = 0; tally = b i; drawing = a i; hit = (m i).hit; lost = (m i).lost; row = 0 }) ∙ sym (edited_room d t o (has_room f))
