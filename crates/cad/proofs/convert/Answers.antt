-- A float holds both coordinates, which come out of their bits as they were.
use Rattle.cad.proofs.Positions.{float_holds}
use Rattle.cad.proofs.convert.Goals as goal

pub int_to_float-result : goal.int_to_float-result
int_to_float-result c = float_holds c.ranges.x c.requires.0

pub int_to_float-result-2 : goal.int_to_float-result-2
int_to_float-result-2 c = float_holds c.ranges.y c.requires.1
