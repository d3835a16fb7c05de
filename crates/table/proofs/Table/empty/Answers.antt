-- No row is in use: all are `zero`.
use Rattle.std.proofs.Common.{sym, ap}
use Rattle.lists.specs.Tables.{pad}
use Rattle.lists.proofs.Tables.{holds_none}
use Rattle.table.proofs.Table.empty.Goals as goal

pub returns : goal.returns
unfolding pad
returns g c = λ j. record { rows = (holds_none g.row.N c.args.zero).rows_are j; count = 0 }
