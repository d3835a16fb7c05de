-- `nets::flatten` meets its contract: the places passed have their root.
use Rattle.nets.proofs.Flat.{Flattened}
use Rattle.nets.proofs.flatten.Given as goal

abbrev pub invariant-loop-n : goal.invariant-loop-n
invariant-loop-n l = Flattened l.initial.nets l.n l.nets
