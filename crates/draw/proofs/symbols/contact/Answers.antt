-- The table is the list of the definition, number by number, which antt computes; its last shape is what `moving_contact` ensures.
use native.Mathlib.Omega.{arith}
use mathlib.Core.Path.{sym, ap, ◌∙◌}
use lib.Ieee.{neg, of_bits, of_int}
use Rattle.draw.specs.Answers.{chosen, shape_is, asked}
use Rattle.draw.specs.Symbols.{contact_static, moving_contact, contact_draws, whole, minus, bits}
use Rattle.draw.proofs.Tables.{at_end, not_at_end}
use Rattle.draw.proofs.symbols.contact.Goals as goal

pub returns-in-6 : goal.returns-in-6
unfolding contact_static
returns-in-6 c = let s = c.args in ap shape_is c.moving_contact.ensures ∙ at_end contact_static (moving_contact s.a s.b) ∙ sym (ap (λ n. asked n (contact_draws s.a s.b)) c.in-6.is)

pub returns-in_default : goal.returns-in_default
unfolding contact_static whole minus bits neg of_bits of_int
returns-in_default c = let s = c.args in ap chosen c.at_place.ensures ∙ not_at_end contact_static (moving_contact s.a s.b) s.i (λ e. omega (arith, c.in_default, e))
