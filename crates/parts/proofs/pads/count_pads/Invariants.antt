-- A pass: the sum is the number of the pads of the components passed.
use Rattle.std.proofs.Common.{◌≡◌, ◌≤◌, ◌*◌}
use Rattle.lists.proofs.Passes.{Pass}
use Rattle.sheet.specs.Parts.{pads}
use Rattle.parts.proofs.Listing.{Many}
use Rattle.parts.proofs.pads.count_pads.Given as goal

abbrev pub invariant-loop-c : goal.invariant-loop-c
invariant-loop-c l = (l.sum ≤ 3 * l.c-index) × Pass Many pads l.cs l.c-index l.sum
