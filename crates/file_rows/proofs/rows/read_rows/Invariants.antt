-- `read_rows` meets its contract: the rows read so far stand in the table, and with what is left they are all.
use mathlib.Core.Path.{◌≡◌}
use mathlib.Core.List.{List, ◌++◌}
use Prim.Native.Nat.{ℕ, ◌≤◌, ◌+◌}
use lib.ListN.{length, drop}
use Rattle.lists.specs.Tables.{Holds}
use Rattle.groups.specs.Taken.{Taken, times}
use Rattle.file_rows.specs.Answers.{Reads}
use Rattle.file_rows.proofs.SoFar.{SoFar}
use Rattle.file_rows.proofs.rows.read_rows.Given as goal

abbrev pub invariant-rows : goal.invariant-rows
invariant-rows g l = record {
  count : l.table.count ≡ l.initial.table.count + l.counter;
  rows : (f : List ℕ → Taken g.row.T.Denot) → Reads (goal.F-post g l.read) f → l.at ≤ length l.bytes → (z : g.row.T.Denot) (ys : List g.row.T.Denot) → Holds g.row.N z ys l.initial.table.rows l.initial.table.count → SoFar f l.bytes l.n (times f l.n (drop l.at l.bytes)) l.counter l.next (λ xs. Holds g.row.N z (ys ++ xs) l.table.rows l.table.count);
}
