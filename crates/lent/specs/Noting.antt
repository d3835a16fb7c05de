-- "The caller lends a tally that is brought up to date in its place": after reply 0 it holds the answer's, else what it held.
use Rattle.std.specs.Prelude.{cond, eqb}
use Rattle.sheet.specs.declared.Tally.{Tally}
use Rattle.redraw.specs.declared.Edited.{Edited}

unfoldable pub noted : Tally → Edited → Tally
noted t e = cond (eqb e.reply 0) e.tally t
