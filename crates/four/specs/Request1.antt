-- Document 02, P1: "Keep the orientation as one number. .. Hold 0 to 7 in the drawing, numbered as in document 01, with turning and mirroring
-- on that number. Every edit, list and shape must be proved the same as under the four numbers, through one translation. For orientations,
-- reply 4 is now a number outside 0 to 7."
--
-- What a name with `Four.` in front says is document 01 as it stands, with four signed numbers to a component: the files beside this one.
-- A name without it says what our calls promise, of the number. The translation is `four`, and what follows from it for a drawing and an
-- answer. Then come the samenesses, one for each call: for every drawing, lawful or not, and every number, 0 to 7 or not. And last, that no
-- lawful drawing is lost or added by it.
use Rattle.std.specs.Prelude.{ℕ, Bool, cond, List, map, ◌++◌, ◌↔◌, ◌≡◌, eqb, ℤ, pos, drop}
use Rattle.edge.specs.Coordinates.{to_ℕ}
use Rattle.orientation.specs.declared.RotMirror.{RotMirror}
use Rattle.orientation.specs.Orientations.{Turned}
use Rattle.orientation.specs.Orientations.{FourNumbers}
use Rattle.orientation.specs.Orientations.{eighth, number_of, zeros, rot_mirror, turned_by, rights, lefts, mirrors, right_of, left_of, mirror_of}
use Rattle.label.specs.declared.Label.{Label}
use Rattle.component.specs.Answers.{component_pads_of, component_box_of}
use Rattle.cad.specs.Shapes.{component_shape}
use Rattle.sheet.specs.declared.Component.{Component}
use Rattle.sheet.specs.declared.Drawing.{Drawing}
use Rattle.sheet.specs.declared.Tally.{Tally}
use Rattle.sheet.specs.Drawings.{component_rows, lists_of, joints, tally_of}
use Rattle.sheet.specs.Rules.{Lawful}
use Rattle.rules.specs.Check.{check_of}
use Rattle.redraw.specs.declared.Edited.{Edited}
use Rattle.redraw.specs.Calls.{add_wire, add_component, delete_at, rotate_at, mirror_at}
use Rattle.schematic.specs.Calls.{checked}
use Rattle.loose_pads.specs.Counting.{loose_of}
use Rattle.listing.specs.Listing.{list_of}
use Rattle.netlist.specs.Answers.{netlist_of, netlist_in, loose_answer}
use Rattle.four.specs.Four

-- ---- the translation

-- THE translation: a component with the four numbers of its number
abbrev pub four : Component → Four.Part
four c = record { kind = c.kind; turn = eighth c.orientation; x = c.x; y = c.y; label = c.label }

-- a row behind the count is no component: all that is asked of it is that it is all zero, and so its number goes over as it is
abbrev pub behind : Component → Four.Part
behind c = record { kind = c.kind; turn = rot_mirror (pos c.orientation) (pos 0) (pos 0) (pos 0); x = c.x; y = c.y; label = c.label }

-- a drawing: its components in use, and the rows behind them
abbrev pub four_drawing : Drawing → Four.Drawing
four_drawing d =
    let t = d.components in
    record { wires = d.wires; components = record { rows = map four (component_rows t) ++ map behind (drop t.count t.rows); count = t.count }; joints = d.joints }

-- the answer to an edit
abbrev pub four_edited : Edited → Four.Edited
four_edited e = record { reply = e.reply; tally = e.tally; drawing = four_drawing e.drawing; hit = e.hit; lost = e.lost; row = e.row }

-- the answer to a turn: "zeros for every number" where it is refused
abbrev pub four_turned : Turned → FourNumbers
four_turned r = record { reply = r.reply; turn = cond (eqb r.reply 0) (eighth r.turn) zeros }

-- ---- and back: a lawful drawing under the four numbers has one number for each orientation
abbrev pub number : Four.Part → Component
number p = record { kind = p.kind; orientation = number_of p.turn; x = p.x; y = p.y; label = p.label }

abbrev pub number_behind : Four.Part → Component
number_behind p = record { kind = p.kind; orientation = to_ℕ p.turn.0; x = p.x; y = p.y; label = p.label }

abbrev pub number_drawing : Four.Drawing → Drawing
number_drawing d =
    let t = d.components in
    record { wires = d.wires; components = record { rows = map number (Four.part_rows t) ++ map number_behind (drop t.count t.rows); count = t.count }; joints = d.joints }

-- ---- the forms of the edits: of a drawing, what is asked, and a tally

abbrev pub SameWire : (Four.Drawing → Bool → ℤ → ℤ → ℤ → Tally → Four.Edited) → (Drawing → Bool → ℤ → ℤ → ℤ → Tally → Edited) → Type 0
SameWire f g = (d : Drawing) (vertical : Bool) (line start end : ℤ) (t : Tally) → f (four_drawing d) vertical line start end t ≡ four_edited (g d vertical line start end t)

abbrev pub SamePlace : (Four.Drawing → ℕ → RotMirror → ℤ → ℤ → Label → Tally → Four.Edited) → (Drawing → ℕ → ℕ → ℤ → ℤ → Label → Tally → Edited) → Type 0
SamePlace f g = (d : Drawing) (kind n : ℕ) (x y : ℤ) (label : Label) (t : Tally) → f (four_drawing d) kind (eighth n) x y label t ≡ four_edited (g d kind n x y label t)

abbrev pub SamePointer : (Four.Drawing → ℤ → ℤ → ℤ → Tally → Four.Edited) → (Drawing → ℤ → ℤ → ℤ → Tally → Edited) → Type 0
SamePointer f g = (d : Drawing) (x y size : ℤ) (t : Tally) → f (four_drawing d) x y size t ≡ four_edited (g d x y size t)

-- ---- the samenesses

-- turns, boxes, pads and shapes asked of a number. One outside 0 to 7 has the four zeros, which are none of the eight: 4 on both sides
pub record SameSymbols : Type 0 where
  pub right : (n : ℕ) → Four.turned right_of (eighth n) ≡ four_turned (turned_by rights n)
  pub left : (n : ℕ) → Four.turned left_of (eighth n) ≡ four_turned (turned_by lefts n)
  pub mirror : (n : ℕ) → Four.turned mirror_of (eighth n) ≡ four_turned (turned_by mirrors n)
  pub pads : (kind n : ℕ) (x y : ℤ) → Four.component_pads kind (eighth n) x y ≡ component_pads_of kind n x y
  pub box : (kind n : ℕ) (x y : ℤ) → Four.component_box kind (eighth n) x y ≡ component_box_of kind n x y
  pub shape : (kind n : ℕ) (x y : ℤ) (label : Label) (i : ℕ) (a b : Bool) → Four.component_shape kind (eighth n) x y label i a b ≡ component_shape kind n x y label i a b

-- the edits of a drawing known to be lawful
pub record SameEdits : Type 0 where
  pub wire : SameWire Four.add_wire add_wire
  pub place : SamePlace Four.add_component add_component
  pub delete : SamePointer Four.delete_at delete_at
  pub turn : SamePointer Four.rotate_at rotate_at
  pub mirror : SamePointer Four.mirror_at mirror_at

-- the edits as a caller meets them, with 9 for a drawing that is not lawful. A lent tally ends by the reply and the tally alone (`noted` in
-- `lent`), so this is said of the calls of `lent` too
pub record SameCalls : Type 0 where
  pub wire : SameWire (λ d v l s e t. Four.checked d t (Four.add_wire d v l s e t)) (λ d v l s e t. checked d t (add_wire d v l s e t))
  pub place : SamePlace (λ d k o x y b t. Four.checked d t (Four.add_component d k o x y b t)) (λ d k n x y b t. checked d t (add_component d k n x y b t))
  pub delete : SamePointer (λ d x y s t. Four.checked d t (Four.delete_at d x y s t)) (λ d x y s t. checked d t (delete_at d x y s t))
  pub turn : SamePointer (λ d x y s t. Four.checked d t (Four.rotate_at d x y s t)) (λ d x y s t. checked d t (rotate_at d x y s t))
  pub mirror : SamePointer (λ d x y s t. Four.checked d t (Four.mirror_at d x y s t)) (λ d x y s t. checked d t (mirror_at d x y s t))

-- the list, the loose pads, joints and tally of a drawing; the three calls for them, with 9
pub record SameLists (d : Drawing) : Type 0 where
  pub list : Four.list_of (Four.lists_of (four_drawing d)) ≡ list_of (lists_of d)
  pub loose : Four.loose_of (Four.lists_of (four_drawing d)) ≡ loose_of (lists_of d)
  pub joints : Four.joints (Four.lists_of (four_drawing d)) ≡ joints (lists_of d)
  pub tally : Four.tally_of (Four.lists_of (four_drawing d)) ≡ tally_of (lists_of d)
  pub told : (room : ℕ) → Four.netlist_of (four_drawing d) room ≡ netlist_of d room
  pub written : (old : List ℕ) → Four.netlist_in (four_drawing d) old ≡ netlist_in d old
  pub loose_told : Four.loose_answer (four_drawing d) ≡ loose_answer d

-- which drawings are lawful, and what the drawing check tells: the same rule and the same rows
pub record SameLaw (d : Drawing) : Type 0 where
  pub lawful : Lawful d ↔ Four.Lawful (four_drawing d)
  pub check : Four.check_of (four_drawing d) ≡ check_of d

-- nothing is lost and nothing added: the lawful drawings of both forms are one to one
pub record OneToOne : Type 0 where
  pub forth : (d : Drawing) → Lawful d → number_drawing (four_drawing d) ≡ d
  pub back : (d : Four.Drawing) → Four.Lawful d → four_drawing (number_drawing d) ≡ d

-- "Every edit, list and shape must be proved the same as under the four numbers, through one translation."
pub record Request1 : Type 0 where
  pub symbols : SameSymbols
  pub edits : SameEdits
  pub calls : SameCalls
  pub lists : (d : Drawing) → SameLists d
  pub law : (d : Drawing) → SameLaw d
  pub one_to_one : OneToOne
