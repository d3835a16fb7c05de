-- The table is the list of the definition, number by number, which antt computes; its last shape is what `inner_circle` ensures.
use native.Mathlib.Omega.{arith}
use mathlib.Core.Path.{sym, ap, ◌∙◌}
use lib.Ieee.{neg, of_bits, of_int}
use Rattle.draw.specs.Answers.{chosen, shape_is, asked}
use Rattle.draw.specs.Symbols.{coil_static, inner_circle, coil_draws, whole, minus, bits}
use Rattle.draw.proofs.Tables.{at_end, not_at_end}
use Rattle.draw.proofs.symbols.coil.Goals as goal

pub returns-in-6 : goal.returns-in-6
unfolding coil_static
returns-in-6 c = let s = c.args in ap shape_is c.inner_circle.ensures ∙ at_end coil_static (inner_circle s.on) ∙ sym (ap (λ n. asked n (coil_draws s.on)) c.in-6.is)

pub returns-in_default : goal.returns-in_default
unfolding coil_static whole minus bits neg of_bits of_int
returns-in_default c = let s = c.args in ap chosen c.at_place.ensures ∙ not_at_end coil_static (inner_circle s.on) s.i (λ e. omega (arith, c.in_default, e))
