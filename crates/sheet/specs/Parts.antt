-- Components: a symbol, turned and moved to its position.
use Rattle.std.specs.Prelude.{ℕ, ◌≤◌, ◌<◌, Bool, List, T}
use Rattle.std.specs.List.{flat_map}
use Rattle.orientation.specs.Orientations.{eighth, turn_by, rights, mirrors, can_turn}
use Rattle.label.specs.Labels.{label_ok}
use Rattle.symbol.specs.declared.Point.{Point}
use Rattle.symbol.specs.declared.Bounds.{Bounds}
use Rattle.symbol.specs.Symbols.{pad_points, bounds_at, touches_of}
use Rattle.sheet.specs.declared.Component.{Component}
use Rattle.sheet.specs.Points.{rises}

-- where it stands
abbrev pub position : Component → Point
position c = record { x = c.x; y = c.y }

-- the component's box
unfoldable pub box : Component → Bounds
box c = bounds_at c.kind (eighth c.orientation) c.x c.y

-- the component's pads, in symbol order
unfoldable pub pads : Component → List Point
pads c = pad_points c.kind (eighth c.orientation) c.x c.y

-- the pads of all components
abbrev pub pads_of : List Component → List Point
pads_of cs = flat_map pads cs

-- the two boxes share a point, edges counted
unfoldable pub touches : Component → Component → Bool
touches b c = touches_of (box b) (box c)

-- row order of components, by (y, x)
abbrev pub ahead : Component → Component → Bool
ahead b c = rises (position b) (position c)

-- "Kind: 0 Power, 1 Contact, 2 Coil." "Hold 0 to 7 in the drawing, numbered as in document 01" (document 02, P1). "Component position:
-- −5,800 to 5,800. Label: 0 to 16 bytes, each 0x21 to 0x7E, held in 16 bytes with zeros behind."
pub record PartFits (c : Component) : Type 0 where
  pub kind : c.kind ≤ 2
  pub orientation : c.orientation < 8
  pub x : (200 ≤ c.x) × (c.x ≤ 11800)
  pub y : (200 ≤ c.y) × (c.y ≤ 11800)
  pub label : T (label_ok c.label)

-- the component is a contact
abbrev pub is_contact : Component → Bool
is_contact c = can_turn c.kind

-- the component with another orientation
abbrev pub reoriented : (ℕ → ℕ) → Component → Component
reoriented f c = record { kind = c.kind; orientation = f c.orientation; x = c.x; y = c.y; label = c.label }

-- turned right in its place
abbrev pub turned_right : Component → Component
turned_right c = reoriented (turn_by rights) c

-- mirrored in its place
abbrev pub mirrored : Component → Component
mirrored c = reoriented (turn_by mirrors) c
