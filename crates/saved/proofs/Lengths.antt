-- 6,022 bytes always suffice: 2 for each count, 6 for each of 512 wires, 23 for each of 128 components.
use mathlib.Core.Path.{◌≡◌, refl, sym, ap, ◌∙◌}
use mathlib.Core.Bool.{Bool, true, false}
use mathlib.Core.List.Memᴰ.{head as ∈-head}
use mathlib.Core.List.Memᴰ.{tail as ∈-tail}
use mathlib.Core.List.{List, [], ◌∷◌}
use Prim.Native.Nat.{ℕ, ◌+◌, ◌*◌, ◌≤◌}
use native.Mathlib.Omega.{arith}
use lib.ListN.{length, length-append}
use Rattle.lists.specs.Lists.{◌∈◌}
use Rattle.std.specs.List.{flat_map}
use Rattle.label.specs.Labels.{label_part}
use Rattle.label.proofs.Labels.{label_short}
use Rattle.sheet.specs.declared.Wire.{Wire}
use Rattle.sheet.specs.declared.Component.{Component}
use Rattle.sheet.specs.declared.Drawing.{Drawing}
use Rattle.sheet.specs.Drawings.{Sheet, Sized, lists_of}
use Rattle.sheet.specs.Rules.{Lawful}
use Rattle.groups.specs.Groups.{groups_of}
use Rattle.groups.proofs.Laws.{length_one, length_two}
use Rattle.saved.specs.File.{wire_bytes, label_bytes, part_bytes, listed, directed, file_of}
use Rattle.saved.proofs.Rows.{WireIn}
use Rattle.saved.proofs.Parts.{PartIn}
use Rattle.saved.proofs.Sheets.{SheetIn}
use Rattle.saved.proofs.Files.{lawful_in}

-- ---- lengths, part by part

pub length_wire : (w : Wire) → length (wire_bytes w) ≡ length (groups_of w.line) + (length (groups_of w.start) + length (groups_of w.end))
unfolding wire_bytes
length_wire w = simp length-append

pub length_label : (l : List ℕ) → length (label_bytes l) ≡ length (groups_of (length l)) + length l
unfolding label_bytes
length_label l = simp length-append

pub length_part : (c : Component) → length (part_bytes c)
    ≡ length (groups_of c.kind) + (length (groups_of c.orientation) + (length (groups_of c.x) + (length (groups_of c.y) + length (label_bytes (label_part c.label)))))
unfolding part_bytes
length_part c = simp length-append

pub length_listed : {A : Type 0} (f : A → List ℕ) (xs : List A) → length (listed f xs) ≡ length (groups_of (length xs)) + length (flat_map f xs)
length_listed f xs = length-append (groups_of (length xs)) (flat_map f xs)

pub length_file : (s : Sheet) → length (file_of s)
    ≡ length (listed wire_bytes (directed false s.wires)) + (length (listed wire_bytes (directed true s.wires)) + length (listed part_bytes s.parts))
unfolding file_of
length_file s = simp length-append

-- ---- how long at most

length_each : {A : Type 0} (f : A → List ℕ) (k : ℕ) (xs : List A) → ((x : A) → x ∈ xs → length (f x) ≤ k) → length (flat_map f xs) ≤ k * length xs
length_each f k [] h = omega arith
length_each f k (x ∷ xs) h = omega (arith, h x (∈-head refl), length_each f k xs (λ y m. h y (∈-tail m)), length-append (f x) (flat_map f xs))

wire_short : {w : Wire} {v : Bool} → WireIn v w → length (wire_bytes w) ≤ 6
wire_short {w} h = omega (arith, length_wire w, length_two w.line (omega (arith, h.line)), length_two w.start (omega (arith, h.start)), length_two w.end (omega (arith, h.end)))

pub label_few : (c : Component) → PartIn c → length (label_part c.label) ≤ 16
label_few c h = omega (arith, label_short c.label, h.size)

part_short : {c : Component} → PartIn c → length (part_bytes c) ≤ 23
part_short {c} h =
    let l = label_part c.label in
    let few : length l ≤ 16 = label_few c h in
    omega (
      arith,
      length_part c,
      length_one c.kind (omega (arith, h.fits.kind)),
      length_one c.orientation (omega (arith, h.fits.orientation)),
      length_two c.x (omega (arith, h.fits.x.1)),
      length_two c.y (omega (arith, h.fits.y.1)),
      length_label l,
      length_one (length l) (omega arith),
    )

-- the two directions together are all wires
both : {s : Sheet} → SheetIn s → length (directed false s.wires) + length (directed true s.wires) ≡ length s.wires
both {s} h = sym (length-append (directed false s.wires) (directed true s.wires)) ∙ ap length h.order

pub file_room : {s : Sheet} → SheetIn s → length (file_of s) ≤ 6022
file_room {s} h =
    let hs = directed false s.wires in
    let vs = directed true s.wires in
    let sum = both h in
    let few = h.wires in
    omega (
      arith,
      length_file s,
      length_listed wire_bytes hs,
      length_listed wire_bytes vs,
      length_listed part_bytes s.parts,
      length_each wire_bytes 6 hs (λ w m. wire_short (h.levels w m)),
      length_each wire_bytes 6 vs (λ w m. wire_short (h.uprights w m)),
      length_each part_bytes 23 s.parts (λ c m. part_short (h.each c m)),
      length_two (length hs) (omega arith),
      length_two (length vs) (omega arith),
      length_two (length s.parts) (omega (arith, h.parts)),
      sum,
      h.wires,
      h.parts,
    )

-- "6,022 bytes always suffice"
pub lawful_file_room : {d : Drawing} → Lawful d → Sized d → length (file_of (lists_of d)) ≤ 6022
lawful_file_room l z = file_room (lawful_in l z)
