-- Below the calls: the tables of a drawing without its joints, and a drawing whose joints are those of its wires and components.
use Rattle.std.specs.Prelude.{◌≤◌, ◌≡◌}
use Rattle.sheet.specs.Tables.{Wires}
use Rattle.sheet.specs.Tables.{Components}
use Rattle.sheet.specs.declared.Drawing.{Drawing}
use Rattle.sheet.specs.Drawings.{Sheet, joints, wire_rows, component_rows, lists_of, joint_table}
use Rattle.wires.specs.Tables.{Tabled}
use Rattle.parts.specs.Tables.{TabledParts, PartsFit}

-- the sheet that the tables hold
abbrev pub sheet_of : Wires → Components → Sheet
sheet_of ws cs = record { wires = wire_rows ws; parts = component_rows cs }

-- both tables have zero rows behind their counts, and the components meet the limits
pub record Sound (ws : Wires) (cs : Components) : Type 0 where
  pub wires : Tabled (wire_rows ws) ws
  pub parts : TabledParts (component_rows cs) cs
  pub fits : PartsFit cs

-- the counts are within the rooms, and the joints are those of the wires and components
pub record Counted (d : Drawing) : Type 0 where
  pub wires : d.wires.count ≤ 512
  pub parts : d.components.count ≤ 128
  pub joints_are : d.joints ≡ joint_table (joints (lists_of d))
