-- The rows of the wires split.
use Rattle.bench_calls.proofs.Rowing.{grown_rows_lem, no_rows_lem}
use Rattle.bench_calls.proofs.tables.split_rows.Goals as goal

pub returns-in-Ok : goal.returns-in-Ok
returns-in-Ok c = grown_rows_lem (rw c.in_use.ensures at c.in-Ok.ensures)

pub returns-in-Err : goal.returns-in-Err
returns-in-Err c = no_rows_lem _ (rw c.in_use.ensures at c.in-Err.ensures)
