-- `nets::root` calls itself: the measure is the net number, which falls each time.
use Rattle.nets.proofs.+root.Given as goal

abbrev pub decreases-root : goal.decreases-root
decreases-root l = l.n
