-- The answer to a call for a shape, as document 01 tells it: a number and values.
-- "For an answer that is an enum, a definition provides this paper's number and values for each of the enum's cases. The promises use this
-- definition."
use Rattle.std.specs.Prelude.{ℕ, [], Option, Result}
use Rattle.refusal.specs.declared.Refusal.{Refusal}
use Rattle.refusal.specs.Numbers.{answered}
use Rattle.draw.specs.declared.Draw.{Draw}
use Rattle.draw.specs.Answers.{Answer, chosen}

-- "for a bad component, checked first, it is 4, 1 or 5": the refusal n, and no values
abbrev pub refused_shape : ℕ → Answer
refused_shape n = record { number = n; values = [] }

-- each case of the answer
abbrev pub shape_answer : Result (Option Draw) Refusal → Answer
shape_answer r = answered chosen refused_shape r
