-- Under the translation the list of a sheet is that of the plan, and so are its loose pads.
use mathlib.Core.List.{List, map}
use mathlib.Core.Path.{◌≡◌, refl, ap, ◌∙◌}
use lib.Dec.{eqb}
use lib.ListN.{length}
use Rattle.std.specs.List.{filter}
use Rattle.lists.proofs.Mapped.{keep_mapped, map_mapped}
use Rattle.sheet.specs.declared.Component.{Component}
use Rattle.sheet.specs.Parts.{pads_of}
use Rattle.sheet.specs.Drawings.{Sheet}
use Rattle.nets.specs.Numbers.{by_number, numbers_of}
use Rattle.net_numbers.specs.Netted.{number_of_joint, is_power, ends_of, net_numbers}
use Rattle.loose_pads.specs.Counting.{loose_pads, loose_of}
use Rattle.listing.specs.Listing.{list_with, nth, entry, list_of}
use Rattle.four.specs.Plans as Plans
use Rattle.four.specs.Listing as Four
use Rattle.four.specs.Request1.{four}
use Rattle.four.proofs.Sheets.{fours, same_pads_of, same_joints}

same_powers : (cs : List Component) → Plans.pads_of (filter (λ c. eqb c.kind 0) (map four cs)) ≡ pads_of (filter is_power cs)
same_powers cs = ap Plans.pads_of (keep_mapped four (λ c. eqb c.kind 0) is_power (λ c. refl) cs) ∙ same_pads_of (filter is_power cs)

same_numbers : (s : Sheet) → Four.net_numbers (fours s) ≡ net_numbers s
unfolding Four.net_numbers net_numbers
same_numbers s = λ i. numbers_of (by_number (number_of_joint (same_joints s i)) (record { links = map ends_of s.wires; powers = same_powers s.parts i })) (map (number_of_joint (same_joints s i)) (same_pads_of s.parts i))

pub same_list : (s : Sheet) → Four.list_of (fours s) ≡ list_of s
unfolding Four.list_of list_of
same_list s = λ i. list_with (nth (same_numbers s i)) (map_mapped four Four.entry entry (λ c. refl) s.parts i)

pub same_loose : (s : Sheet) → Four.loose_of (fours s) ≡ loose_of s
unfolding Four.loose_of loose_of
same_loose s = λ i. length (loose_pads (map_mapped four (λ c. c.kind) (λ c. c.kind) (λ c. refl) s.parts i) (same_numbers s i))
