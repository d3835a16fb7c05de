-- "Each drawn coordinate is at most 1/4,096 from the exact sum, whole inputs give the whole number, and none is a negative zero":
-- what this says of each shape r that a call answers.
use Rattle.std.specs.Prelude.{◌≡◌, ℕ, Bool, cond, List, ℤ}
use Rattle.orientation.specs.declared.RotMirror.{RotMirror}
use Rattle.orientation.specs.Orientations.{eighth}
use Rattle.label.specs.declared.Label.{Label}
use Rattle.draw.specs.Answers.{shape_is, asked}
use Rattle.draw.specs.Bound.{CloseDraw, CloseMark}
use Rattle.draw.specs.Symbols.{draws_of}
use Rattle.draw.specs.declared.Draw.{Draw}
use Rattle.cad.specs.Shapes.{component_shape, wire_shape, junction_shape}

-- r is what is drawn of d, which is shape i of the list
pub record Shown (o : RotMirror) (x y : ℤ) (i : ℕ) (ds : List Draw) (r : Draw) : Type 0 where
  pub d : Draw
  pub at : asked i ds ≡ shape_is d
  pub close : CloseDraw o x y d r

-- each shape of a component is drawn close to that of its symbol
abbrev pub ComponentClose : Type 0
ComponentClose = (kind n : ℕ) (x y : ℤ) (label : Label) (i : ℕ) (a b : Bool) (r : Draw) → component_shape kind n x y label i a b ≡ shape_is r → Shown (eighth n) x y i (draws_of kind a b) r

-- a wire's mark goes from one of its ends to the other
abbrev pub WireMark : Bool → ℤ → ℤ → ℤ → Draw → Type 0
WireMark vertical line start end r = cond vertical (CloseMark line start line end r) (CloseMark start line end line r)

-- and so is the mark of a wire
abbrev pub WireClose : Type 0
WireClose = (vertical : Bool) (line start end : ℤ) (r : Draw) → wire_shape vertical line start end ≡ shape_is r → WireMark vertical line start end r

-- a joint's mark is at its point, a line from the point to itself
abbrev pub JunctionClose : Type 0
JunctionClose = (x y : ℤ) (count : ℕ) (r : Draw) → junction_shape x y count ≡ shape_is r → CloseMark x y x y r
