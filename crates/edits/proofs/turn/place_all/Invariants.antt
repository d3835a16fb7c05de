-- Each component hit in turn is lost or placed; what the rest makes of the tables so far is the whole.
use Rattle.std.proofs.Common.{◌+◌, ◌≤◌, ◌≡◌, length, map, List}
use Rattle.lists.specs.Lists.{◌∈◌}
use Rattle.sheet.specs.declared.Component.{Component}
use Rattle.sheet.specs.Parts.{PartFits}
use Rattle.sheet.specs.Edits.{place_all}
use Rattle.sheet.specs.Drawings.{component_rows}
use Rattle.parts.specs.Tables.{EachFits, TabledParts}
use Rattle.joints.specs.Tables.{sheet_of}
use Rattle.edits.proofs.Placing.{Placing}
use Rattle.edits.proofs.turn.place_all.Given as goal

abbrev pub invariant-loop-h : goal.invariant-loop-h
invariant-loop-h g l =
    (l.parts.count + length l.hits ≤ 128 + l.h-index) × (l.lost ≤ l.h-index) × TabledParts (component_rows l.parts) l.parts × EachFits (component_rows l.parts)
    × ((f : Component → Component) → ((c r : Component) → PartFits c → goal.F-post g l.alter c r → r ≡ f c) → Placing (place_all (map f l.hits) (sheet_of l.fn.ws l.fn.cs)) f l.hits l.h-index l.wires l.parts l.lost)
