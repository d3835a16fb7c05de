-- What the calls for a shape answer: the shapes of a component, and the marks of a wire and a joint.
use Rattle.std.specs.Prelude.{ℕ, Bool, cond, map, leb, eqb, ℤ}
use Rattle.symbol.specs.Replies.{granted, point_reply, wire_reply, component_reply}
use Rattle.orientation.specs.Orientations.{eighth}
use Rattle.label.specs.declared.Label.{Label}
use Rattle.cad.specs.Answers.{refused_shape}
use Rattle.draw.specs.Answers.{Answer, shape_is, no_shape, asked}
use Rattle.draw.specs.Symbols.{whole, draws_of}
use Rattle.draw.specs.Transforms.{float_position, transform_of}
use Rattle.draw.specs.declared.Draw.TheVariants.{Line, Circle}

-- "for a bad component, checked first, it is 4, 1 or 5."
unfoldable pub component_shape : ℕ → ℕ → ℤ → ℤ → Label → ℕ → Bool → Bool → Answer
component_shape kind n x y label i a b = granted (component_reply kind n x y label) refused_shape (asked i (map (transform_of (eighth n) (float_position x y)) (draws_of kind a b)))

-- "Wire: line, width 6; a bad wire gives 1 or 2". `line` is the y of a horizontal wire, the x of a vertical one
unfoldable pub wire_shape : Bool → ℤ → ℤ → ℤ → Answer
wire_shape vertical line start end =
    granted (wire_reply line start end) refused_shape
    (cond vertical
    (shape_is (Line (float_position line start) (float_position line end) (whole 6)))
    (shape_is (Line (float_position start line) (float_position end line) (whole 6))))

-- "a joint point out of range 1, before its count is looked at. Joint count 3 or more: line from the point to itself, width 40; count 1:
-- circle, radius 10, width 1; else no shape."
unfoldable pub junction_shape : ℤ → ℤ → ℕ → Answer
junction_shape x y count =
    granted (point_reply 6000 x y) refused_shape
    (cond (leb 3 count)
    (shape_is (Line (float_position x y) (float_position x y) (whole 40)))
    (cond (eqb count 1)
    (shape_is (Circle (float_position x y) (whole 10) (whole 1)))
    no_shape))
