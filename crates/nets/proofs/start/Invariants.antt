-- `nets::start` meets its contract: the joints of the power pads passed are at 0.
use mathlib.Core.Path.{◌≡◌}
use lib.ListN.{take}
use Rattle.nets.specs.Numbers.{first_net}
use Rattle.nets.specs.Tables.{tabulate}
use Rattle.nets.proofs.start.Given as goal

abbrev pub invariant-loop-n : goal.invariant-loop-n
invariant-loop-n l = l.alias ≡ tabulate (first_net (take l.n-index l.powers)) 1409
