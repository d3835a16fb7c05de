-- The test of rule 1: "counts are within the rooms, rows beyond the counts are all zero, and each wire and component meets the limits,
-- a wire with start < end".
use Rattle.std.specs.Prelude.{Bool, ◌&&◌, not, eqb, ltb, leb, drop}
use Rattle.std.specs.List.{list_all}
use Rattle.edge.specs.Coordinates.{is_position}
use Rattle.label.specs.Labels.{label_ok, all_zero}
use Rattle.symbol.specs.Symbols.{known_symbol}
use Rattle.sheet.specs.declared.Wire.{Wire}
use Rattle.sheet.specs.declared.Component.{Component}
use Rattle.sheet.specs.declared.Joint.{Joint}
use Rattle.sheet.specs.declared.Drawing.{Drawing}
use Rattle.sheet.specs.Drawings.{lists_of}

-- a wire row that is all zero
unfoldable pub blank_wire : Wire → Bool
blank_wire w = not w.vertical && (eqb w.line 0 && (eqb w.start 0 && eqb w.end 0))

-- a component row that is all zero
unfoldable pub blank_component : Component → Bool
blank_component c = eqb c.kind 0 && (eqb c.orientation 0 && (eqb c.x 0 && (eqb c.y 0 && all_zero c.label)))

-- a joint row that is all zero
unfoldable pub blank_joint : Joint → Bool
blank_joint j = eqb j.x 0 && (eqb j.y 0 && eqb j.count 0)

-- the wire meets the limits, with start < end
unfoldable pub wire_fits : Wire → Bool
wire_fits w = leb w.line 12000 && (ltb w.start w.end && leb w.end 12000)

-- the component meets the limits
unfoldable pub component_fits : Component → Bool
component_fits c = known_symbol c.kind c.orientation && (is_position c.x && (is_position c.y && label_ok c.label))

-- "counts are within the rooms"
unfoldable pub rooms : Drawing → Bool
rooms d = leb d.wires.count 512 && (leb d.components.count 128 && leb d.joints.count 1408)

-- "rows beyond the counts are all zero"
unfoldable pub blanks : Drawing → Bool
blanks d =
    list_all blank_wire (drop d.wires.count d.wires.rows)
    && (list_all blank_component (drop d.components.count d.components.rows)
    && list_all blank_joint (drop d.joints.count d.joints.rows))

-- "each wire and component meets the limits"
unfoldable pub limits : Drawing → Bool
limits d = list_all wire_fits (lists_of d).wires && list_all component_fits (lists_of d).parts

-- rule 1
unfoldable pub check1 : Drawing → Bool
check1 d = rooms d && (blanks d && limits d)
