-- Document 02, P4: "Tell which room and which neighbour. .. Reply 7 is to mean components only, and too many wires gets its own number.
-- Reply 6 also tells the row of the first placed component touched, in row order. The other replies tell row 0. .. Refusals: 11, more than
-- 512 wires after the edit, straight after 7; where both apply, 7."
use Rattle.std.specs.Prelude.{ℕ, ◌≤◌, ◌<◌, Bool, ◌↔◌, ◌≡◌, ℤ, length}
use Rattle.lists.specs.Lists.{◌∈◌}
use Rattle.lists.specs.First.{FirstAt}
use Rattle.edge.specs.Coordinates.{to_ℕ}
use Rattle.label.specs.declared.Label.{Label}
use Rattle.symbol.specs.declared.Point.{Point}
use Rattle.symbol.specs.Replies.{wire_reply, pointer_reply, component_reply}
use Rattle.sheet.specs.declared.Component.{Component}
use Rattle.sheet.specs.declared.Drawing.{Drawing}
use Rattle.sheet.specs.declared.Tally.{Tally}
use Rattle.sheet.specs.Drawings.{Sheet, Sized, lists_of}
use Rattle.sheet.specs.Rules.{Lawful}
use Rattle.sheet.specs.Edits.{wire, place_one, turn_right, mirror}
use Rattle.rules.specs.Verdict.{Touch}
use Rattle.asked.specs.Asked.{wire_at, component_at, point_at}
use Rattle.redraw.specs.declared.Edited.{Edited}
use Rattle.redraw.specs.Calls.{add_wire, add_component, delete_at, rotate_at, mirror_at}
use Rattle.schematic.specs.Calls.{checked}
use Rattle.promises.specs.Request14.{PointerCall}

-- ---- which room

-- the answer to an edit after which the sheet would be s: 7 and 11 exactly when it would hold too much, if none of the refusals before them
-- applies, which `Free` says
pub record WhichRoom (Free : Type 0) (s : Sheet) (answer : Edited) : Type 0 where
  pub seven : (answer.reply ≡ 7) ↔ (Free × (128 < length s.parts))
  pub eleven : (answer.reply ≡ 11) ↔ (Free × ((length s.parts ≤ 128) × (512 < length s.wires)))

-- ---- which neighbour

-- the answer to the placing of c
pub record WhichNeighbour (d : Drawing) (c : Component) (answer : Edited) : Type 0 where
  pub six : answer.reply ≡ 6 → FirstAt (Touch c) (lists_of d).parts answer.row
  pub other : (answer.reply ≡ 6 → ⊥) → answer.row ≡ 0

-- the answer to an edit that brings no component: it has room for those there are, and no row to tell
pub record NoNewcomer (answer : Edited) : Type 0 where
  pub seven : answer.reply ≡ 7 → ⊥
  pub row : answer.row ≡ 0

-- ---- the calls of which this is promised: the public ones of `schematic`, and with their tally lent, which have the same answer, of `lent`

module _ (d : Drawing) (t : Tally) where
  abbrev pub WireTold : Type 0
  WireTold =
      (vertical : Bool) (line start end : ℤ)
      → let answer = checked d t (add_wire d vertical line start end t) in
      WhichRoom (Lawful d × (wire_reply line start end ≡ 0)) (wire (wire_at vertical line start end) (lists_of d)) answer × NoNewcomer answer

  abbrev pub PlaceTold : Type 0
  PlaceTold =
      (kind orientation : ℕ) (x y : ℤ) (label : Label)
      → let c = component_at kind orientation x y label in
      let answer = checked d t (add_component d kind orientation x y label t) in
      let free = (b : Component) → b ∈ (lists_of d).parts → Touch c b → ⊥ in
      WhichRoom (Lawful d × ((component_reply kind orientation x y label ≡ 0) × free)) (place_one c (lists_of d)) answer × WhichNeighbour d c answer

  -- a turn or mirroring
  abbrev pub TurnTold : PointerCall → (Point → ℕ → Sheet) → Type 0
  TurnTold call edit =
      (x y size : ℤ)
      → let answer = checked d t (call d x y size t) in
      WhichRoom (Lawful d × (pointer_reply x y size ≡ 0)) (edit (point_at x y) (to_ℕ size)) answer × NoNewcomer answer

  -- a delete gets neither 7 nor 11
  abbrev pub DeleteTold : Type 0
  DeleteTold = (x y size : ℤ) → let answer = checked d t (delete_at d x y size t) in NoNewcomer answer × (answer.reply ≡ 11 → ⊥)

-- of every drawing that code holds, lawful or not
pub record Request4 : Type 0 where
  pub wire : (d : Drawing) → Sized d → (t : Tally) → WireTold d t
  pub place : (d : Drawing) → Sized d → (t : Tally) → PlaceTold d t
  pub turn : (d : Drawing) → Sized d → (t : Tally) → TurnTold d t rotate_at (λ p n. (turn_right p n (lists_of d)).sheet)
  pub mirror : (d : Drawing) → Sized d → (t : Tally) → TurnTold d t mirror_at (λ p n. (mirror p n (lists_of d)).sheet)
  pub delete : (d : Drawing) → Sized d → (t : Tally) → DeleteTold d t
