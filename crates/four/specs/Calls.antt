-- The calls under the four numbers: turns, boxes and pads, shapes, the five edits, the list and the loose pads, each with its refusals.
-- "Order: 10, 9, 4, 1, 2, 3, 5, 6, 7, 8; the first that applies.", with 11 "straight after 7" (document 02, P4).
use Rattle.std.specs.Prelude.{ℕ, Bool, ◌&&◌, cond, List, [], map, leb, eqb, ℤ, length}
use Rattle.std.specs.Int.Signed.{le_z}
use Rattle.std.specs.List.{list_any}
use Rattle.lists.specs.First.{first_row}
use Rattle.edge.specs.Coordinates.{to_ℕ, biased, ranged, size_of}
use Rattle.orientation.specs.declared.RotMirror.{RotMirror}
use Rattle.orientation.specs.Orientations.{FourNumbers}
use Rattle.orientation.specs.Orientations.{known, four_are, no_four}
use Rattle.label.specs.declared.Label.{Label}
use Rattle.label.specs.Labels.{held_label}
use Rattle.symbol.specs.declared.Point.{Point}
use Rattle.symbol.specs.Symbols.{pads_at, low_at, high_at}
use Rattle.component.specs.Answers.{PadsAnswer}
use Rattle.component.specs.Answers.{BoxAnswer}
use Rattle.component.specs.Answers.{position_of, answer, spanned, no_box}
use Rattle.draw.specs.Answers.{Answer, asked}
use Rattle.draw.specs.Symbols.{draws_of}
use Rattle.draw.specs.Transforms.{float_position, transform_of}
use Rattle.cad.specs.Answers.{refused_shape}
use Rattle.sheet.specs.declared.Tally.{Tally}
use Rattle.asked.specs.Asked.{wire_at, point_at}
use Rattle.text.specs.declared.Written.{Written}
use Rattle.text.specs.Answers.{told_length, answer_of, buffer_of}
use Rattle.netlist.specs.declared.LooseCount.{LooseCount}
use Rattle.netlist.specs.Answers.{loose_count}
use Rattle.four.specs.Plans.{Part, Plan, Drawing, touches, tally_of, lists_of, drawn}
use Rattle.four.specs.Edits.{Outcome, wire, place_one, delete, turn_right, mirror}
use Rattle.four.specs.Listing.{list_of, loose_of}
use Rattle.four.specs.Check.{known_symbol, lawful}

-- ---- "A box, pads or a turn asked of a bad kind, orientation or position get 4 or 1, in that order, and zeros for every number."

-- the turn f asked of four numbers
unfoldable pub turned : (RotMirror → RotMirror) → RotMirror → FourNumbers
turned f o = cond (known o) (four_are (f o)) no_four

unfoldable pub component_pads : ℕ → RotMirror → ℤ → ℤ → PadsAnswer
component_pads kind o x y = cond (known_symbol kind o) (cond (ranged 5800 x && ranged 5800 y) (answer 0 (map (position_of o x y) (pads_at kind))) (answer 1 [])) (answer 4 [])

unfoldable pub component_box : ℕ → RotMirror → ℤ → ℤ → BoxAnswer
component_box kind o x y = cond (known_symbol kind o) (cond (ranged 5800 x && ranged 5800 y) (spanned (position_of o x y (low_at kind)) (position_of o x y (high_at kind))) (no_box 1)) (no_box 4)

-- "for a bad component, checked first, it is 4, 1 or 5."
unfoldable pub component_shape : ℕ → RotMirror → ℤ → ℤ → Label → ℕ → Bool → Bool → Answer
component_shape kind o x y label i a b =
    cond (known_symbol kind o)
    (cond (ranged 5800 x && ranged 5800 y)
    (cond (eqb (held_label label).reply 0)
    (asked i (map (transform_of o (float_position x y)) (draws_of kind a b)))
    (refused_shape 5))
    (refused_shape 1))
    (refused_shape 4)

-- ---- the edits

-- the answer to an edit: besides the reply and the tally the drawing, "how many were hit and how many of these are gone afterwards", and the
-- row that reply 6 tells
pub record Edited : Type 0 where
  pub reply : ℕ
  pub tally : Tally
  pub drawing : Drawing
  pub hit : ℕ
  pub lost : ℕ
  pub row : ℕ

-- "A refused edit returns the drawing received, with hit and lost 0; tally and buffer keep their old content."
abbrev pub refused_at : ℕ → ℕ → Drawing → Tally → Edited
refused_at row n d t = record { reply = n; tally = t; drawing = d; hit = 0; lost = 0; row = row }

-- "The other replies tell row 0." (document 02, P4)
abbrev pub refused : ℕ → Drawing → Tally → Edited
refused n d t = refused_at 0 n d t

-- the reply n is given if the test fails
abbrev pub refused_unless : Bool → ℕ → Drawing → Tally → Edited → Edited
refused_unless b n d t other = cond b other (refused n d t)

-- "Hit and lost are 0 for wire, place and delete."
abbrev pub quiet : Plan → Outcome
quiet s = record { plan = s; hit = 0; lost = 0 }

abbrev pub edit_done : Outcome → Edited
edit_done o = record { reply = 0; tally = tally_of o.plan; drawing = drawn o.plan; hit = o.hit; lost = o.lost; row = 0 }

-- 7 for components only, 11 for wires "straight after 7", or 0
unfoldable pub edited : Drawing → Tally → Outcome → Edited
edited d t o =
    refused_unless (leb (length o.plan.parts) 128) 7 d t
    (refused_unless (leb (length o.plan.wires) 512) 11 d t
    (edit_done o))

-- "Wire.": 1, 2, then the edit
unfoldable pub add_wire : Drawing → Bool → ℤ → ℤ → ℤ → Tally → Edited
add_wire d vertical line start end t =
    refused_unless (ranged 6000 line && (ranged 6000 start && ranged 6000 end)) 1 d t
    (refused_unless (le_z start end) 2 d t
    (edited d t (quiet (wire (wire_at vertical line start end) (lists_of d)))))

abbrev pub part_at : ℕ → RotMirror → ℤ → ℤ → Label → Part
part_at kind o x y label = record { kind = kind; turn = o; x = biased x; y = biased y; label = (held_label label).bytes }

-- 6, which "also tells the row of the first placed component touched, in row order" (document 02, P4)
abbrev pub refused_touching : Part → Drawing → Tally → Edited → Edited
refused_touching c d t other =
    let placed = (lists_of d).parts in
    cond (list_any (touches c) placed) (refused_at (first_row (touches c) placed) 6 d t) other

-- "Place.": 4, 1, 5, 6, then the edit
unfoldable pub add_component : Drawing → ℕ → RotMirror → ℤ → ℤ → Label → Tally → Edited
add_component d kind o x y label t =
    let c = part_at kind o x y label in
    refused_unless (known_symbol kind o) 4 d t
    (refused_unless (ranged 5800 x && ranged 5800 y) 1 d t
    (refused_unless (eqb (held_label label).reply 0) 5 d t
    (refused_touching c d t
    (edited d t (quiet (place_one c (lists_of d)))))))

-- the pointer and a size are in their ranges, else 1 or 3
unfoldable pub pointed : Drawing → ℤ → ℤ → ℤ → Tally → (Point → ℕ → Outcome) → Edited
pointed d x y size t edit =
    refused_unless (ranged 6000 x && ranged 6000 y) 1 d t
    (refused_unless (eqb (size_of size).reply 0) 3 d t
    (edited d t (edit (point_at x y) (to_ℕ size))))

-- "Delete."
unfoldable pub delete_at : Drawing → ℤ → ℤ → ℤ → Tally → Edited
delete_at d x y size t = pointed d x y size t (λ p n. quiet (delete p n (lists_of d)))

-- "Turn right, mirror."
unfoldable pub rotate_at : Drawing → ℤ → ℤ → ℤ → Tally → Edited
rotate_at d x y size t = pointed d x y size t (λ p n. turn_right p n (lists_of d))

unfoldable pub mirror_at : Drawing → ℤ → ℤ → ℤ → Tally → Edited
mirror_at d x y size t = pointed d x y size t (λ p n. mirror p n (lists_of d))

-- ---- "9: the lent drawing isn't lawful"

-- an edit as a caller meets it
unfoldable pub checked : Drawing → Tally → Edited → Edited
checked d t e = refused_unless (lawful d) 9 d t e

-- the list: 9, 8, or 0 with its length
unfoldable pub netlist_of : Drawing → ℕ → Written
netlist_of d room = cond (lawful d) (answer_of (list_of (lists_of d)) room) (told_length 9 0)

-- what the lent buffer then holds
unfoldable pub netlist_in : Drawing → List ℕ → List ℕ
netlist_in d old = cond (lawful d) (buffer_of (list_of (lists_of d)) old) old

-- 9 and no count, or how many pads are loose
unfoldable pub loose_answer : Drawing → LooseCount
loose_answer d = cond (lawful d) (loose_count 0 (loose_of (lists_of d))) (loose_count 9 0)
