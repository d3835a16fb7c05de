-- The table is the list of the definition, number by number, which antt computes.
use mathlib.Core.Path.{ap, ◌∙◌}
use lib.Ieee.{neg, of_bits, of_int}
use Rattle.draw.specs.Answers.{chosen}
use Rattle.draw.specs.Symbols.{power_draws, whole, minus, bits}
use Rattle.draw.proofs.Tables.{at_place}
use Rattle.draw.proofs.symbols.power.Goals as goal

pub returns : goal.returns
unfolding power_draws whole minus bits neg of_bits of_int
returns c = ap chosen c.at_place.ensures ∙ at_place power_draws c.args.i
