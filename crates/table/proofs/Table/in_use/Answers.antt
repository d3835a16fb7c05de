-- The rows up to the count; where it is greater than their number, all.
use Rattle.std.proofs.Common.{rules, arith, sym, ◌≡◌, length}
use Rattle.std.proofs.lemmas.List.{take_all}
use Rattle.lists.proofs.Tables.{long}
use Rattle.table.proofs.Table.in_use.Goals as goal

pub returns : goal.returns
returns g c =
    let s = c.args.self.now in
    let size : length s.rows ≡ g.row.N = search long in
    sym (take_all s.count s.rows (omega arith))
