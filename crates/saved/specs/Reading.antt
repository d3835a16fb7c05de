-- Reading a file, byte by byte, in the order of its content; a refusal is told as soon as the byte or the number that causes it is read.
use Rattle.std.specs.Prelude.{ℕ, ◌-◌, Bool, true, false, List, [], ◌∷◌, ◌++◌, length, drop}
use Rattle.label.specs.Labels.{graphic, padded}
use Rattle.sheet.specs.declared.Wire.{Wire}
use Rattle.sheet.specs.declared.Component.{Component}
use Rattle.sheet.specs.declared.Drawing.{Drawing}
use Rattle.sheet.specs.Drawings.{Sheet, empty_sheet, drawn}
use Rattle.rules.specs.Check.{lawful}
use Rattle.groups.specs.Taken.{Taken, took, refused, then, short, if, times}
use Rattle.groups.specs.Groups.{take_in}
use Rattle.saved.specs.declared.Opened.{Opened}
use Rattle.saved.specs.declared.Front.{Front}

-- a wire: three coordinates, each from 0 to 12,000
unfoldable pub take_wire : Bool → List ℕ → Taken Wire
take_wire v s = then (take_in 0 12000 s) (λ line s. then (take_in 0 12000 s) (λ start s. then (take_in 0 12000 s) (λ end. took (record { vertical = v; line = line; start = start; end = end }))))

-- a label's byte, raw
unfoldable pub take_graphic : List ℕ → Taken ℕ
take_graphic [] = short
take_graphic (b ∷ s) = if (graphic b) b s

-- a label: its length, 0 to 16, and its bytes
unfoldable pub take_label : List ℕ → Taken (List ℕ)
take_label s = then (take_in 0 16 s) (λ n. times take_graphic n)

-- a component: its kind, 0 to 2; its orientation, 0 to 7; its position, 200 to 11,800 each; its label
unfoldable pub take_part : List ℕ → Taken Component
take_part s =
    then (take_in 0 2 s) (λ kind s. then (take_in 0 7 s) (λ orientation s. then (take_in 200 11800 s) (λ x s. then (take_in 200 11800 s) (λ y s. then (take_label s) (λ label.
    took (record { kind = kind; orientation = orientation; x = x; y = y; label = padded 16 label }))))))

-- the horizontal wires, at most 512; the vertical ones, at most 512 with those; the components, at most 128
unfoldable pub take_sheet : List ℕ → Taken Sheet
take_sheet s =
    then (take_in 0 512 s) (λ h s. then (times (take_wire false) h s) (λ hs s.
    then (take_in 0 (512 - h) s) (λ v s. then (times (take_wire true) v s) (λ vs s.
    then (take_in 0 128 s) (λ n s. then (times take_part n s) (λ cs. took (record { wires = hs ++ vs; parts = cs })))))))

-- a drawing at the front: "Joints aren't stored but counted again on reading"; "start < end and rules 2 to 7 are checked after the last
-- component". (The rest of rule 1 was seen while reading.)
unfoldable pub take_drawing : List ℕ → Taken Drawing
take_drawing s = then (take_sheet s) (λ t. if (lawful (drawn t)) (drawn t))

-- "14, bytes behind the end"
abbrev pub at_end : Drawing → List ℕ → Taken Drawing
at_end d [] = took d []
at_end d (b ∷ s) = refused 14

-- a whole file: the rules "before 14"
unfoldable pub take_file : List ℕ → Taken Drawing
take_file s = then (take_drawing s) at_end

-- "On refusal the reader hands back the empty drawing."
abbrev pub opened : Taken Drawing → Opened
opened (took d s) = record { reply = 0; drawing = d }
opened (refused r) = record { reply = r; drawing = drawn empty_sheet }

-- what reading a file answers
unfoldable pub read_file : List ℕ → Opened
read_file s = opened (take_file s)

-- ---- one drawing out of some that stand one behind the other, where 14 does not apply

-- of so many bytes, the index behind what was read; a refusal stays where it began
abbrev pub front_of : ℕ → ℕ → Taken Drawing → Front
front_of at room (took d s) = record { reply = 0; next = room - length s; drawing = d }
front_of at room (refused r) = record { reply = r; next = at; drawing = drawn empty_sheet }

-- what reading a drawing from an index on answers
unfoldable pub read_front : List ℕ → ℕ → Front
read_front s at = front_of at (length s) (take_drawing (drop at s))
