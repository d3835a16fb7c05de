-- Below the calls: wires and pads by their joints, as tables.
use Rattle.std.specs.Prelude.{ℕ}
use Rattle.table.specs.declared.Table.{Table}
use Rattle.nets.specs.declared.Link.{Link}

abbrev pub Links : Type 0
Links = Table Link 512

abbrev pub Pads : Type 0
Pads = Table ℕ 384
