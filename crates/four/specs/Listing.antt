-- The wiring list of a plan (document 01, "Nets and the list"), and its loose pads (document 02, P2).
use Rattle.std.specs.Prelude.{ℕ, List, map, eqb, length}
use Rattle.std.specs.List.{filter}
use Rattle.label.specs.Labels.{label_part}
use Rattle.symbol.specs.declared.Point.{Point}
use Rattle.nets.specs.Nets.{Net}
use Rattle.nets.specs.Numbers.{by_number, numbers_of}
use Rattle.net_numbers.specs.Netted.{ends_of, number_of_joint}
use Rattle.loose_pads.specs.Counting.{loose_pads}
use Rattle.listing.specs.Listing.{Entry, nth, list_with}
use Rattle.four.specs.Plans.{Part, Plan, pads_of, joints}

-- what joins the points of a plan: the wires and the power pads
abbrev pub net_on : Plan → Net Point
net_on s = record { links = map ends_of s.wires; powers = pads_of (filter (λ c. eqb c.kind 0) s.parts) }

-- the net numbers of all pads, "going through the components in row order and each one's pads in symbol order"
unfoldable pub net_numbers : Plan → List ℕ
net_numbers s = numbers_of (by_number (number_of_joint (joints s)) (net_on s)) (map (number_of_joint (joints s)) (pads_of s.parts))

-- what the list tells of a component besides its nets
abbrev pub entry : Part → Entry
entry c = record { kind = c.kind; label = label_part c.label }

unfoldable pub list_of : Plan → List ℕ
list_of s = list_with (nth (net_numbers s)) (map entry s.parts)

-- how many pads are loose, by the kinds of the components and the net numbers of their pads
unfoldable pub loose_of : Plan → ℕ
loose_of s = length (loose_pads (map (λ c. c.kind) s.parts) (net_numbers s))
