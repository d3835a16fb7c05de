-- The file of a drawing, byte by byte: "the number of horizontal wires, each y, x1, x2; the number of vertical wires, each x, y1, y2; the number of
-- components, each kind, orientation 0 to 7, x, y, label length, label bytes, these raw and not in groups. Coordinates are stored plus 6,000; all in
-- row order." Rows hold coordinates plus 6,000 already.
use Rattle.std.specs.Prelude.{ℕ, Bool, true, false, List, ◌++◌, length}
use Rattle.std.specs.Bool.{beq}
use Rattle.std.specs.List.{filter, flat_map}
use Rattle.label.specs.Labels.{label_part}
use Rattle.sheet.specs.declared.Wire.{Wire}
use Rattle.sheet.specs.declared.Component.{Component}
use Rattle.sheet.specs.Drawings.{Sheet}
use Rattle.groups.specs.Groups.{groups_of}

-- the line, the start and the end: y, x1, x2 of a horizontal wire; x, y1, y2 of a vertical one
unfoldable pub wire_bytes : Wire → List ℕ
wire_bytes w = groups_of w.line ++ (groups_of w.start ++ groups_of w.end)

-- the label's length and its bytes
unfoldable pub label_bytes : List ℕ → List ℕ
label_bytes label = groups_of (length label) ++ label

-- kind, orientation, position and label
unfoldable pub part_bytes : Component → List ℕ
part_bytes c =
    groups_of c.kind ++ (groups_of c.orientation ++ (groups_of c.x ++ (groups_of c.y ++ label_bytes (label_part c.label))))

-- how many, and each
abbrev pub listed : {A : Type 0} → (A → List ℕ) → List A → List ℕ
listed f xs = groups_of (length xs) ++ flat_map f xs

-- the wires of a direction, in row order; "no for horizontal"
abbrev pub directed : Bool → List Wire → List Wire
directed v ws = filter (λ w. beq w.vertical v) ws

-- the file
unfoldable pub file_of : Sheet → List ℕ
file_of s = listed wire_bytes (directed false s.wires) ++ (listed wire_bytes (directed true s.wires) ++ listed part_bytes s.parts)
