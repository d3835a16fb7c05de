-- What the looks answer, read together.
use Rattle.lawful.proofs.Sound.{joints_rise, wires_sound}
use Rattle.lawful.proofs.wires_right.Goals as goal

pub levels_clear-requires : goal.levels_clear-requires
levels_clear-requires c = joints_rise _ _ c.requires.1

pub uprights_clear-requires : goal.uprights_clear-requires
uprights_clear-requires c = (c.requires.0, joints_rise _ _ c.requires.1)

pub returns : goal.returns
returns c = wires_sound _ _ c.requires.1 c.wires_in_order.ensures c.levels_clear.ensures c.uprights_clear.ensures
