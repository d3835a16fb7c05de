-- `nets::number` meets its contract: the pads passed have the numbers of their nets.
use mathlib.Core.List.{map}
use lib.ListN.{get_or, take}
use Rattle.nets.proofs.Ranks.{Passed}
use Rattle.nets.proofs.number.Given as goal

abbrev pub invariant-loop-i : goal.invariant-loop-i
invariant-loop-i l = Passed (map (λ n. get_or l.nets n 0) (take l.i l.pads)) l.count l.given l.out l.i
