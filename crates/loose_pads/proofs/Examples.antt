-- The small drawings of docs/SCRIPT.md, and one that each of two other readings of the request would count otherwise.
use mathlib.Core.List.{[], ◌∷◌}
use mathlib.Core.Path.{◌≡◌, refl}
use Rattle.lists.specs.Lists.{insert}
use Rattle.lists.specs.Span.{span}
use Rattle.edge.specs.Coordinates.{biased}
use Rattle.sheet.specs.Points.{same, rises}
use Rattle.sheet.specs.Geometry.{ends}
use Rattle.sheet.specs.Joints.{bump, joints_of}
use Rattle.sheet.specs.Parts.{pads}
use Rattle.sheet.specs.Drawings.{Sheet, joints}
use Rattle.sheet.specs.Examples.{h, v, part, unlabelled}
use Rattle.nets.specs.Numbers.{merged, net_from, first_net, net_of, rank, meet, number_from, numbering, numbers_of}
use Rattle.net_numbers.specs.Netted.{number_of_joint, net_numbers}
use Rattle.loose_pads.specs.Loose.{pad_names}
use Rattle.loose_pads.specs.Counting.{occurs, spare, is_loose, numbers_from, loose_pads, loose_of}

-- power above a contact whose C it feeds; A is wired to a coil, and B is spare
abbrev spare_b : Sheet
spare_b = record { wires = v 5950 6100 6300 ∷ v 6000 5700 5900 ∷ []; parts = part 0 6000 5700 unlabelled ∷ part 1 6000 6000 unlabelled ∷ part 2 5950 6400 unlabelled ∷ [] }

-- the same without the coil and its wire: A and B are both spare
abbrev both_spare : Sheet
both_spare = record { wires = v 6000 5700 5900 ∷ []; parts = part 0 6000 5700 unlabelled ∷ part 1 6000 6000 unlabelled ∷ [] }

-- a coil and a wire from its pad that leads nowhere
abbrev leads_nowhere : Sheet
leads_nowhere = record { wires = v 6000 6200 6300 ∷ []; parts = part 2 6000 6400 unlabelled ∷ [] }

-- a contact alone, whose A and B are wired together
abbrev two_together : Sheet
two_together = record { wires = h 6100 5950 6050 ∷ []; parts = part 1 6000 6000 unlabelled ∷ [] }

record LooseExamples : Type 0 where
  spare_b_lem : loose_pads (0 ∷ 1 ∷ 2 ∷ []) (net_numbers spare_b) ≡ []
  both_spare_lem : loose_pads (0 ∷ 1 ∷ []) (net_numbers both_spare) ≡ 2 ∷ 3 ∷ []
  leads_nowhere_lem : loose_of leads_nowhere ≡ 1
  two_together_lem : loose_pads (1 ∷ []) (net_numbers two_together) ≡ 0 ∷ []

loose_examples : LooseExamples
unfolding insert span biased same rises ends bump joints_of pads joints merged net_from first_net net_of rank meet number_from numbering numbers_of number_of_joint net_numbers pad_names occurs spare is_loose numbers_from loose_pads loose_of
loose_examples = record { spare_b_lem = refl; both_spare_lem = refl; leads_nowhere_lem = refl; two_together_lem = refl }
