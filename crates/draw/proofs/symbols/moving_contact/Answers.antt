-- Each way out is the line of the definition, number by number, which antt computes.
use lib.Ieee.{neg, of_bits, of_int}
use Rattle.draw.specs.Symbols.{moving_contact, whole, bits}
use Rattle.draw.proofs.symbols.moving_contact.Goals as goal

pub returns-then-a-b : goal.returns-then-a-b
unfolding moving_contact whole bits neg of_bits of_int
returns-then-a-b c = simp c.if-a-b.true

pub returns-then-a : goal.returns-then-a
unfolding moving_contact whole bits neg of_bits of_int
returns-then-a c = simp c.if-a-b.false (simp c.if-a.true)

pub returns : goal.returns
unfolding moving_contact whole bits neg of_bits of_int
returns c = simp c.if-a-b.false (simp c.if-a.false)
