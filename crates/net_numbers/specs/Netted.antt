-- The nets of a drawing's pads, and their numbers (document 01, "Nets and the list").
use Rattle.std.specs.Prelude.{ℕ, suc, Bool, not, List, map, eqb}
use Rattle.std.specs.List.{filter}
use Rattle.lists.specs.Span.{span}
use Rattle.symbol.specs.declared.Point.{Point}
use Rattle.sheet.specs.declared.Wire.{Wire}
use Rattle.sheet.specs.declared.Component.{Component}
use Rattle.sheet.specs.declared.Joint.{Joint}
use Rattle.sheet.specs.Points.{same}
use Rattle.sheet.specs.Geometry.{tip, low, high}
use Rattle.sheet.specs.Joints.{joint_point}
use Rattle.sheet.specs.Parts.{pads_of}
use Rattle.sheet.specs.Drawings.{Sheet, joints}
use Rattle.nets.specs.Nets.{Net}
use Rattle.nets.specs.Numbers.{by_number, numbers_of}

-- "Kind: 0 Power"
abbrev pub is_power : Component → Bool
is_power c = eqb c.kind 0

-- a wire by its two ends
abbrev pub ends_of : Wire → Point × Point
ends_of w = (tip low w, tip high w)

-- what joins the points of a sheet: the wires and the power pads
abbrev pub net_on : Sheet → Net Point
net_on s = record { links = map ends_of s.wires; powers = pads_of (filter is_power s.parts) }

-- the number of the joint at a point: its row, counted from 1
unfoldable pub number_of_joint : List Joint → Point → ℕ
number_of_joint js p = suc (span (λ j. not (same p (joint_point j))) js)

-- the net numbers of all pads, "going through the components in row order and each one's pads in symbol order"
unfoldable pub net_numbers : Sheet → List ℕ
net_numbers s = numbers_of (by_number (number_of_joint (joints s)) (net_on s)) (map (number_of_joint (joints s)) (pads_of s.parts))
