-- The rows passed stand behind those that were in use.
use Rattle.std.proofs.Common.{take}
use Rattle.table.specs.Tables.{Extends}
use Rattle.table.proofs.Table.extend.Given as goal

abbrev pub invariant-loop-row : goal.invariant-loop-row
invariant-loop-row g l = Extends (take l.row-index l.rows) l.initial.self l.self
