-- Below the calls: wire ends and pads as numbers, as a table: twice 512 and three times 128 at most.
use Rattle.std.specs.Prelude.{ℕ}
use Rattle.table.specs.declared.Table.{Table}

abbrev pub Numbers : Type 0
Numbers = Table ℕ 1408
