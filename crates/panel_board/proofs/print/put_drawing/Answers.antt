-- `panel_board::put_drawing` prints the rows of a drawing that the check has found lawful.
use Rattle.std.proofs.Common.{arith}
use Rattle.sheet.proofs.Owned.{owned}
use Rattle.rules.proofs.Found.{lawful_found}
use Rattle.panel_board.proofs.print.put_drawing.Goals as goal

pub put_rows-n-requires : goal.put_rows-n-requires
put_rows-n-requires g c =
    record { lawful = lawful_found c.args.d c.check-k.ensures (owned _ _ c.well_formed.1.0.1.1) c.if-k-eq0.true; space = omega arith }
