-- The end of a wire of the other direction, then a pad, each looked up.
use mathlib.Core.Path.{refl}
use Rattle.merge.proofs.Coding.{coded_as, looked_up}
use native.Mathlib.Omega.{arith}
use Rattle.merge.proofs.held.is_held.Goals as goal

pub code-end-requires : goal.code-end-requires
code-end-requires c = omega (arith, c.kind_of-kind.ensures.1)

pub is_in-requires : goal.is_in-requires
is_in-requires c = c.requires

pub is_in-requires-2 : goal.is_in-requires-2
is_in-requires-2 c = c.requires

pub returns : goal.returns
returns c = λ ws ps k. looked_up ws ps c.args.w k (coded_as c.code-end.ensures c.kind_of-kind.ensures.0 c.high_tip-p.ensures) (coded_as c.code-pad.ensures refl c.high_tip-p.ensures) c.is_in.ensures c.is_in-2.ensures
