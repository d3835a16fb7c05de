-- A row is carried: what is left to do is the whole insertion.
use Rattle.sketch.specs.Tables.{inserted}
use Rattle.sketch.proofs.Inserting.{Carried}
use Rattle.sketch.proofs.tables.put.Given as goal

abbrev pub invariant-loop-k : goal.invariant-loop-k
invariant-loop-k g l = Carried g.row.N (inserted l.initial.k l.initial.carried l.initial.rows) l.rows l.k l.carried
