-- The rows of a drawing as text, a line each: the tally, the wires, the joints, the components, and a line `.` at the end.
use Rattle.std.specs.Prelude.{ℕ, ◌≤◌, Bool, cond, List, [], ◌∷◌, ◌++◌, length}
use Rattle.std.specs.List.{flat_map}
use Rattle.edge.specs.Coordinates.{coord_of}
use Rattle.label.specs.Labels.{label_part}
use Rattle.sheet.specs.declared.Wire.{Wire}
use Rattle.sheet.specs.declared.Joint.{Joint}
use Rattle.sheet.specs.declared.Component.{Component}
use Rattle.sheet.specs.declared.Tally.{Tally}
use Rattle.sheet.specs.declared.Drawing.{Drawing}
use Rattle.sheet.specs.Drawings.{wire_rows, joint_rows, component_rows}
use Rattle.text.specs.Text.{Put, decimal_of, signed_of}
pub use Rattle.text.specs.Text.{Space}

-- ---- words: `T`, `W`, `J`, `C`, `h`, `v`, `.`, space and newline are the bytes 84, 87, 74, 67, 104, 118, 46, 32 and 10

-- ` <number>`
unfoldable pub count_word : ℕ → List ℕ
count_word n = 32 ∷ decimal_of n

-- ` <coordinate>`, as scripts have it: a minus before a negative one. n is the row's number.
unfoldable pub coordinate_word : ℕ → List ℕ
coordinate_word n = 32 ∷ signed_of (coord_of n)

-- "Direction of a wire: .. no for horizontal"
abbrev pub letter_of : Bool → ℕ
letter_of vertical = cond vertical 118 104

-- ` <label>`, a space even where the label is empty: "The label comes back as the part before the first zero byte"
unfoldable pub label_word : List ℕ → List ℕ
label_word bytes = 32 ∷ label_part bytes

-- ---- lines

-- `T <wires> <joints> <components> <sum of all joint counts>`
unfoldable pub tally_line : Tally → List ℕ
tally_line t = 84 ∷ (count_word t.wires ++ (count_word t.joints ++ (count_word t.components ++ (count_word t.ends ++ (10 ∷ [])))))

-- `W h|v <line> <start> <end>`
unfoldable pub wire_line : Wire → List ℕ
wire_line w = 87 ∷ 32 ∷ letter_of w.vertical ∷ (coordinate_word w.line ++ (coordinate_word w.start ++ (coordinate_word w.end ++ (10 ∷ []))))

-- `J <x> <y> <count>`
unfoldable pub joint_line : Joint → List ℕ
joint_line j = 74 ∷ (coordinate_word j.x ++ (coordinate_word j.y ++ (count_word j.count ++ (10 ∷ []))))

-- `C <kind> <orientation> <x> <y> <label>`
unfoldable pub component_line : Component → List ℕ
component_line c =
    67 ∷ (count_word c.kind ++ (count_word c.orientation ++ (coordinate_word c.x ++ (coordinate_word c.y ++ (label_word c.label ++ (10 ∷ []))))))

-- ---- the whole, the rows "in row order"

unfoldable pub row_lines : Tally → Drawing → List ℕ
row_lines t d = tally_line t ++ (flat_map wire_line (wire_rows d.wires) ++ (flat_map joint_line (joint_rows d.joints) ++ flat_map component_line (component_rows d.components)))

-- and then a line `.`
unfoldable pub rows_of : Tally → Drawing → List ℕ
rows_of t d = row_lines t d ++ (46 ∷ 10 ∷ [])

-- ---- what a function that puts bytes tells: the bytes, and that there are at most so many

pub record Puts (most : ℕ) (old : List ℕ) (at : ℕ) (bs new : List ℕ) (next : ℕ) : Type 0 where
  pub put : Put old at bs new next
  pub short : length bs ≤ most

-- what a row puts, and how many bytes at most
pub record Line (A : Type 0) : Type 0 where
  pub of : A → List ℕ
  pub most : ℕ
