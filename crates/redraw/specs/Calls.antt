-- The five edits of a drawing that is known to be lawful: refusals in document 01's order, then the edit of the sheet.
-- "Order: 10, 9, 4, 1, 2, 3, 5, 6, 7, 8; the first that applies.", with 11 "straight after 7" (document 02, P4). 4, 1, 2, 3 and 5, which what
-- is asked alone decides, are `Replies`'s; 6, 7 and 11, which the drawing decides, follow here.
use Rattle.std.specs.Prelude.{ℕ, Bool, cond, ℤ}
use Rattle.std.specs.List.{list_any}
use Rattle.lists.specs.First.{first_row}
use Rattle.edge.specs.Coordinates.{to_ℕ}
use Rattle.label.specs.declared.Label.{Label}
use Rattle.symbol.specs.declared.Point.{Point}
use Rattle.symbol.specs.Replies.{granted, wire_reply, pointer_reply, component_reply}
use Rattle.sheet.specs.declared.Component.{Component}
use Rattle.sheet.specs.declared.Drawing.{Drawing}
use Rattle.sheet.specs.declared.Tally.{Tally}
use Rattle.sheet.specs.Parts.{touches}
use Rattle.sheet.specs.Drawings.{lists_of, drawn, tally_of}
use Rattle.sheet.specs.Edits.{Outcome, wire, place_one, delete, turn_right, mirror}
use Rattle.asked.specs.Asked.{wire_at, component_at, point_at}
use Rattle.edits.specs.Making.{room_reply, quiet}
use Rattle.redraw.specs.declared.Edited.{Edited}

-- "A refused edit returns the drawing received, with hit and lost 0; tally and buffer keep their old content."; and a row that it tells
abbrev pub refused_at : ℕ → ℕ → Drawing → Tally → Edited
refused_at row n d t = record { reply = n; tally = t; drawing = d; hit = 0; lost = 0; row = row }

-- "The other replies tell row 0." (document 02, P4)
abbrev pub refused : ℕ → Drawing → Tally → Edited
refused n d t = refused_at 0 n d t

-- the reply n is given unless it is 0
abbrev pub refused_by : ℕ → Drawing → Tally → Edited → Edited
refused_by n d t other = granted n (λ n. refused n d t) other

-- the reply n is given if the test fails
abbrev pub refused_unless : Bool → ℕ → Drawing → Tally → Edited → Edited
refused_unless b n d t other = cond b other (refused n d t)

-- "after reply 0 it holds the numbers of wires, joints and components and the sum of all joint counts"
abbrev pub edit_done : Outcome → Edited
edit_done o = record { reply = 0; tally = tally_of o.sheet; drawing = drawn o.sheet; hit = o.hit; lost = o.lost; row = 0 }

-- "gives 0 and the drawing as it was; the tally is still filled"
abbrev pub still : Drawing → Edited
still d = record { reply = 0; tally = tally_of (lists_of d); drawing = d; hit = 0; lost = 0; row = 0 }

-- 7, 11 or 0
unfoldable pub edited : Drawing → Tally → Outcome → Edited
edited d t o = refused_by (room_reply o.sheet) d t (edit_done o)

-- "Wire.": 1, 2, then the edit
unfoldable pub add_wire : Drawing → Bool → ℤ → ℤ → ℤ → Tally → Edited
add_wire d vertical line start end t = refused_by (wire_reply line start end) d t (edited d t (quiet (wire (wire_at vertical line start end) (lists_of d))))

-- 6 "the new component's box shares a point with a placed one"; it "also tells the row of the first placed component touched, in row order"
-- (document 02, P4)
abbrev pub refused_touching : Component → Drawing → Tally → Edited → Edited
refused_touching c d t other =
    let placed = (lists_of d).parts in
    cond (list_any (touches c) placed) (refused_at (first_row (touches c) placed) 6 d t) other

-- "Place.": 4, 1, 5, 6, then the edit
unfoldable pub add_component : Drawing → ℕ → ℕ → ℤ → ℤ → Label → Tally → Edited
add_component d kind o x y label t =
    let c = component_at kind o x y label in
    refused_by (component_reply kind o x y label) d t
    (refused_touching c d t
    (edited d t (quiet (place_one c (lists_of d)))))

-- 1, 3, then an edit at the pointer
unfoldable pub pointed : Drawing → ℤ → ℤ → ℤ → Tally → (Point → ℕ → Outcome) → Edited
pointed d x y size t edit = refused_by (pointer_reply x y size) d t (edited d t (edit (point_at x y) (to_ℕ size)))

-- "Delete."; "Hit and lost are 0 for wire, place and delete."
unfoldable pub delete_at : Drawing → ℤ → ℤ → ℤ → Tally → Edited
delete_at d x y size t = pointed d x y size t (λ p n. quiet (delete p n (lists_of d)))

-- "Turn right, mirror.", the turn; "The reply tells how many were hit and how many of these are gone afterwards."
unfoldable pub rotate_at : Drawing → ℤ → ℤ → ℤ → Tally → Edited
rotate_at d x y size t = pointed d x y size t (λ p n. turn_right p n (lists_of d))

-- "Turn right, mirror.", the mirror, with the same reply
unfoldable pub mirror_at : Drawing → ℤ → ℤ → ℤ → Tally → Edited
mirror_at d x y size t = pointed d x y size t (λ p n. mirror p n (lists_of d))
