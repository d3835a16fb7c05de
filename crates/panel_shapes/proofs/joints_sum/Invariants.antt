-- The checksum stays below the modulus.
use Prim.Native.Nat.{◌<◌}
use Rattle.panel_shapes.proofs.joints_sum.Given as goal

abbrev pub invariant-loop-n : goal.invariant-loop-n
invariant-loop-n l = l.h < 4294967291
