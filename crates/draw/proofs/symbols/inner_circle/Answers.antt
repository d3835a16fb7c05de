-- Each way out is the circle of the definition.
use lib.Ieee.{of_bits, of_int}
use Rattle.draw.specs.Symbols.{inner_circle, whole}
use Rattle.draw.proofs.symbols.inner_circle.Goals as goal

pub returns-then-on : goal.returns-then-on
unfolding inner_circle whole of_bits of_int
returns-then-on c = simp c.if-on.true

pub returns : goal.returns
unfolding inner_circle whole of_bits of_int
returns c = simp c.if-on.false
