-- Document 01's whole output, computed from the sheet that its script draws.
use mathlib.Core.Path.{◌≡◌, refl}
use mathlib.Core.List.{[], ◌∷◌}
use Rattle.lists.specs.Lists.{insert}
use Rattle.std.specs.List.{list_any, filter, flat_map}
use Rattle.lists.specs.Span.{span}
use Rattle.edge.specs.Coordinates.{biased}
use Rattle.label.specs.Labels.{label_part}
use Rattle.sheet.specs.Points.{same, rises}
use Rattle.sheet.specs.Geometry.{ends, inside, on, meets, first}
use Rattle.sheet.specs.Split.{split_one, split_at, split_all}
use Rattle.sheet.specs.Run.{kept, run, rest, standing, lay, lay_wire, draw_wire}
use Rattle.sheet.specs.Joints.{bump, joints_of}
use Rattle.sheet.specs.Parts.{pads}
use Rattle.sheet.specs.Drawings.{joints}
use Rattle.sheet.specs.Edits.{wire, place_one}
use Rattle.sheet.specs.Examples.{script}
use Rattle.nets.specs.Numbers.{merged, net_from, first_net, net_of, rank, meet, number_from, numbering, numbers_of}
use Rattle.text.specs.Text.{digits_in, decimal_of}
use Rattle.net_numbers.specs.Netted.{number_of_joint, net_numbers}
use Rattle.loose_pads.specs.Loose.{pad_names}
use Rattle.loose_pads.specs.Counting.{occurs, spare, is_loose, numbers_from, loose_pads, loose_of}
use Rattle.listing.specs.Listing.{net_word, pin_word, relay, switch, entry_lines, lines_in, kind_lines, list_with, list_of}

-- the lines are `R N0 K1.A K1.B`, `S K1.A N0 N1` and `S K1.B N0 N2`
whole_output : list_of script
    ≡ 82 ∷ 32 ∷ 78 ∷ 48 ∷ 32 ∷ 75 ∷ 49 ∷ 46 ∷ 65 ∷ 32 ∷ 75 ∷ 49 ∷ 46 ∷ 66 ∷ 10
    ∷ 83 ∷ 32 ∷ 75 ∷ 49 ∷ 46 ∷ 65 ∷ 32 ∷ 78 ∷ 48 ∷ 32 ∷ 78 ∷ 49 ∷ 10
    ∷ 83 ∷ 32 ∷ 75 ∷ 49 ∷ 46 ∷ 66 ∷ 32 ∷ 78 ∷ 48 ∷ 32 ∷ 78 ∷ 50 ∷ 10 ∷ []
unfolding insert span biased label_part same rises ends inside on meets first split_one split_at split_all kept run rest standing lay lay_wire draw_wire bump joints_of pads joints wire place_one merged net_from first_net net_of rank meet number_from numbering numbers_of digits_in decimal_of number_of_joint net_numbers net_word pin_word relay switch entry_lines lines_in kind_lines list_with list_of
whole_output = refl

-- `E 2`: A and B of the contact
loose_pads_lem : loose_of script ≡ 2
unfolding insert span biased same rises ends inside on meets first split_one split_at split_all kept run rest standing lay lay_wire draw_wire bump joints_of pads joints wire place_one merged net_from first_net net_of rank meet number_from numbering numbers_of number_of_joint net_numbers pad_names occurs spare is_loose numbers_from loose_pads loose_of
loose_pads_lem = refl
