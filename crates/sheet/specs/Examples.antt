-- "Examples on the drawing board", as far as they speak of sheets and not of replies. Coordinates are 6,000 higher.
use Rattle.std.specs.Prelude.{ℕ, true, false, List, [], ◌∷◌, ◌≡◌, replicate}
use Rattle.symbol.specs.declared.Point.{Point}
use Rattle.sheet.specs.declared.Wire.{Wire}
use Rattle.sheet.specs.declared.Component.{Component}
use Rattle.sheet.specs.declared.Joint.{Joint}
use Rattle.sheet.specs.Joints.{count_at, total}
use Rattle.sheet.specs.Parts.{touches, turned_right}
use Rattle.sheet.specs.Drawings.{Sheet, empty_sheet, joints}
use Rattle.sheet.specs.Edits.{wire, place_one, delete, turn_right}

-- `h Y X1 X2`
abbrev pub h : ℕ → ℕ → ℕ → Wire
h y a b = record { vertical = false; line = y; start = a; end = b }

-- `v X Y1 Y2`
abbrev pub v : ℕ → ℕ → ℕ → Wire
v x a b = record { vertical = true; line = x; start = a; end = b }

-- a point
abbrev pub pt : ℕ → ℕ → Point
pt a b = record { x = a; y = b }

-- a joint row
abbrev pub joint : ℕ → ℕ → ℕ → Joint
joint a b n = record { x = a; y = b; count = n }

-- `p KIND 0 X Y` with a label
abbrev pub part : ℕ → ℕ → ℕ → List ℕ → Component
part kind a b label = record { kind = kind; orientation = 0; x = a; y = b; label = label }

-- no label
abbrev pub unlabelled : List ℕ
unlabelled = replicate 16 0

-- `p 1 0 X Y`
abbrev pub contact : ℕ → ℕ → Component
contact a b = part 1 a b unlabelled

-- `h 0 0 100`
abbrev pub single : Sheet
single = wire (h 6000 6000 6100) empty_sheet

-- then `v 50 0 80`
abbrev pub tee : Sheet
tee = wire (v 6050 6000 6080) single

-- `h 0 0 100`, `v 50 -40 40`
abbrev pub crossed : Sheet
crossed = wire (v 6050 5960 6040) single

-- then `h 0 50 60`
abbrev pub joined_crossing : Sheet
joined_crossing = wire (h 6000 6050 6060) crossed

-- `h 0 0 100`, `v 100 0 50`
abbrev pub corner : Sheet
corner = wire (v 6100 6000 6050) single

-- contacts at (0,0) and (101,0)
abbrev pub two : Sheet
two = place_one (contact 6101 6000) (place_one (contact 6000 6000) empty_sheet)

-- wire y = −100 from −200 to 200, contact at (0,0)
abbrev pub on_wire : Sheet
on_wire = place_one (contact 6000 6000) (wire (h 5900 5800 6200) empty_sheet)

-- the script of the whole output: `p 0 0 0 0`, `p 2 0 0 400 K1`, `p 1 0 300 0 K1`, `v 0 0 300`, `h 0 0 200`, `v 200 -100 0`, `h -100 200
-- 300`
abbrev pub script : Sheet
script =
    let K1 : List ℕ = 75 ∷ 49 ∷ replicate 14 0 in
    let s : Sheet = place_one (part 0 6000 6000 unlabelled) empty_sheet in
    let s : Sheet = place_one (part 2 6000 6400 K1) s in
    let s : Sheet = place_one (part 1 6300 6000 K1) s in
    wire (h 5900 6200 6300) (wire (v 6200 5900 6000) (wire (h 6000 6000 6200) (wire (v 6000 6000 6300) s)))

-- what holds of them
pub record Board : Type 0 where
  -- joints (0,0) and (100,0), each 1
  pub first : joints single ≡ joint 6000 6000 1 ∷ joint 6100 6000 1 ∷ []
  -- three wires, (50,0) has 3
  pub three : tee.wires ≡ h 6000 6000 6050 ∷ h 6000 6050 6100 ∷ v 6050 6000 6080 ∷ []
  pub tee_count : count_at (pt 6050 6000) (joints tee) ≡ 3
  -- then `d 50 40 5`: back to one wire
  pub back : delete (pt 6050 6040) 5 tee ≡ single
  -- two wires, no joint at (50,0)
  pub bare : crossed.wires ≡ h 6000 6000 6100 ∷ v 6050 5960 6040 ∷ []
  pub bare_count : count_at (pt 6050 6000) (joints crossed) ≡ 0
  -- four wires, (50,0) has 4
  pub four : joined_crossing.wires ≡ h 6000 6000 6050 ∷ h 6000 6050 6100 ∷ v 6050 5960 6000 ∷ v 6050 6000 6040 ∷ []
  pub four_count : count_at (pt 6050 6000) (joints joined_crossing) ≡ 4
  -- `h 0 0 50`, `h 0 50 100`: one wire
  pub one : wire (h 6000 6050 6100) (wire (h 6000 6000 6050) empty_sheet) ≡ single
  -- two wires, the corner has 2
  pub bend : corner.wires ≡ h 6000 6000 6100 ∷ v 6100 6000 6050 ∷ []
  pub bend_count : count_at (pt 6100 6000) (joints corner) ≡ 2
  -- `h 0 5 5`: nothing
  pub nothing : (s : Sheet) → wire (h 6000 6005 6005) s ≡ s
  -- contact at (0,0), then at (100,0): they touch; at (101,0) instead: they do not
  pub touch : touches (contact 6100 6000) (contact 6000 6000) ≡ true
  pub no_touch : touches (contact 6101 6000) (contact 6000 6000) ≡ false
  -- then `r 0 0 0`: hit 1, lost 1, only (101,0) remains
  pub turn_one : turn_right (pt 6000 6000) 0 two ≡ record { sheet = record { wires = []; parts = contact 6101 6000 ∷ [] }; hit = 1; lost = 1 }
  -- `r 0 0 60` instead: hit 2, lost 1, (0,0) remains, turned
  pub turn_two : turn_right (pt 6000 6000) 60 two ≡ record { sheet = record { wires = []; parts = turned_right (contact 6000 6000) ∷ [] }; hit = 2; lost = 1 }
  -- (0,−100) has 3, all counts sum to 7
  pub pad_count : count_at (pt 6000 5900) (joints on_wire) ≡ 3
  pub pad_sum : total (joints on_wire) ≡ 7
  -- "A corner does not" become one wire: `h 0 100 200` on the corner, and taken away again by `d 150 0 5`
  pub corner_stays : delete (pt 6150 6000) 5 (wire (h 6000 6100 6200) corner) ≡ corner
  -- "without a pad": `d -1000 -1000 0` meets nothing, and the two wires in line stay apart at the pad
  pub pad_stays : delete (pt 5000 5000) 0 on_wire ≡ on_wire
  -- "Three easy slips": not merged at a corner (above), not joined at a bare crossing (`bare`), cut at a pad under the new wire's middle
  pub under : wire (h 5900 5800 6200) (place_one (contact 6000 6000) empty_sheet) ≡ on_wire
