-- A blank drawing, with tables that are not filled.
use Rattle.sketch.specs.Sketches.{unfilled}
use Rattle.sketch.proofs.empty.Goals as goal

pub returns : goal.returns
returns c = λ i. record { drawing = c.blank_drawing-drawing.ensures i; wires = unfilled; components = unfilled; joints = unfilled }
