-- A pass: the sum is the number of the pads of the components passed.
use Rattle.std.proofs.Common.{arith, refl}
use Rattle.lists.proofs.Passes.{pass_start, pass_next}
use Rattle.table.proofs.Passing.{pass_all}
use Rattle.parts.proofs.Listing.{many_none, many_more}
use Rattle.parts.proofs.pads.count_pads.Goals as goal

pub loop-c-init : goal.loop-c-init
loop-c-init c = (omega arith, pass_start _ _ many_none)

pub loop-c-preserved : goal.loop-c-preserved
loop-c-preserved c =
    let s = c.loop-c.invariant.1 in
    (omega arith, pass_next _ s refl (many_more _ s.so_far c.pads_of_kind-sum.ensures.0) c.loop-c-test.true)

pub returns : goal.returns
returns c = (pass_all c.loop-c.invariant.1 c.loop-c-test.false).count_is
