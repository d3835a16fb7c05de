-- The answer to a call for a shape, as document 01 tells it: a number and values.
-- "For an answer that is an enum, a definition provides this paper's number and values for each of the enum's cases. The promises use this
-- definition."
use Rattle.std.specs.Prelude.{ℕ, zero, suc, List, [], ◌∷◌, Float, Option, Some, None}
use Rattle.draw.specs.declared.Draw.{Draw}
use Rattle.draw.specs.declared.Draw.TheVariants.{Line, Circle}

-- the number of the reply, and its values
pub record Answer : Type 0 where
  pub number : ℕ
  pub values : List Float

-- "a line (two points, width) or a circle (centre, radius, width), all f32"
abbrev pub values_of : Draw → List Float
values_of (Line p q width) = p.x ∷ p.y ∷ q.x ∷ q.y ∷ width ∷ []
values_of (Circle p radius width) = p.x ∷ p.y ∷ radius ∷ width ∷ []

-- a shape
abbrev pub shape_is : Draw → Answer
shape_is d = record { number = 0; values = values_of d }

-- "no shape"
abbrev pub no_shape : Answer
no_shape = record { number = 0; values = [] }

-- each case of the enum
abbrev pub chosen : Option Draw → Answer
chosen (Some d) = shape_is d
chosen None = no_shape

-- "A shape is asked for by its place in that order; past the last the reply is "no shape""
unfoldable pub asked : ℕ → List Draw → Answer
asked i [] = no_shape
asked zero (d ∷ ds) = shape_is d
asked (suc i) (d ∷ ds) = asked i ds
