-- Below the calls: tables of components: one that holds a list, and one whose components all meet the limits.
use Rattle.std.specs.Prelude.{◌≤◌, Bool, ◌&&◌, ◌||◌, List, ◌≡◌, length, take}
use Rattle.lists.specs.Lists.{◌∈◌}
use Rattle.lists.specs.Tables.{Holds}
use Rattle.symbol.specs.declared.Point.{Point}
use Rattle.symbol.specs.declared.PadBlock.{PadBlock}
use Rattle.symbol.specs.declared.Bounds.{Bounds}
use Rattle.symbol.specs.Symbols.{touches_of}
use Rattle.sheet.specs.declared.Component.{Component}
use Rattle.sheet.specs.Tables.{Components}
use Rattle.sheet.specs.Parts.{box, is_contact, PartFits}
use Rattle.sheet.specs.Drawings.{zero_component, component_rows}
use Rattle.wires.specs.Points.{Points}
use Rattle.wires.specs.Tables.{point_rows}

-- the table holds the list, and zero rows behind it
abbrev pub TabledParts : List Component → Components → Type 0
TabledParts cs t = Holds 128 zero_component cs t.rows t.count

-- each component meets the limits
abbrev pub EachFits : List Component → Type 0
EachFits cs = (c : Component) → c ∈ cs → PartFits c

-- the count is within the room, and each component in use meets the limits
pub record PartsFit (t : Components) : Type 0 where
  pub room : t.count ≤ 128
  pub each : EachFits (component_rows t)

-- a component that the box meets, of every kind or a contact
abbrev pub met : Bounds → Bool → Component → Bool
met b every c = (every || is_contact c) && touches_of b (box c)

-- "The pads of a symbol come as a block of three points with a count": those that count are ps
pub record Block (ps : List Point) (b : PadBlock) : Type 0 where
  pub size : length b.points ≡ 3
  pub room : b.count ≤ 3
  pub count_is : b.count ≡ length ps
  pub points_are : take b.count b.points ≡ ps

-- the table lists the points; what lies behind them does not count
pub record TabledPoints (ps : List Point) (t : Points) : Type 0 where
  pub size : length t.rows ≡ 384
  pub room : t.count ≤ 384
  pub count_is : t.count ≡ length ps
  pub points_are : point_rows t ≡ ps
