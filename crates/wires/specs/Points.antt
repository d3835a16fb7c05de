-- Below the calls: the pads of all components of a drawing, as a table: three times 128 at most.
use Rattle.table.specs.declared.Table.{Table}
use Rattle.symbol.specs.declared.Point.{Point}

abbrev pub Points : Type 0
Points = Table Point 384
