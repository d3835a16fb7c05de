-- Below the calls: keys of points, as a table: as many as a drawing has wire ends and pads at most.
use Rattle.std.specs.Prelude.{ℕ}
use Rattle.table.specs.declared.Table.{Table}

abbrev pub Keys : Type 0
Keys = Table ℕ 1408
