-- `empty::empty_drawing` meets its contract: no wires and no components.
use Rattle.table.proofs.Rows.{empty_holds}
use Rattle.empty.proofs.Emptiness.{empty_sound, empty_is, empty_lawful}
use Rattle.empty.proofs.empty_drawing.Goals as goal

pub drawn-requires : goal.drawn-requires
drawn-requires c = empty_sound (empty_holds c.empty.ensures) (empty_holds c.empty-2.ensures)

pub returns : goal.returns
returns c = empty_lawful c.drawn.ensures (empty_is (empty_holds c.empty.ensures) (empty_holds c.empty-2.ensures))
