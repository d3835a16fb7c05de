-- A pass: the table lists the pads of the components passed, a block behind a block.
use Rattle.std.proofs.Common.{arith, refl}
use Rattle.lists.proofs.Finding.{get_in}
use Rattle.lists.proofs.Passes.{pass_start, pass_next}
use Rattle.symbol.specs.Symbols.{unused}
use Rattle.table.proofs.Passing.{pass_all}
use Rattle.parts.proofs.Listing.{lists_none, lists_block}
use Rattle.parts.proofs.pads.all_pads.Goals as goal

pub loop-c-init : goal.loop-c-init
loop-c-init c = (omega arith, pass_start _ _ lists_none)

pub pads_of-b-requires : goal.pads_of-b-requires
pads_of-b-requires c = c.requires.0 _ (get_in _ _ _ c.loop-c-test.true)

pub loop-c-preserved : goal.loop-c-preserved
loop-c-preserved c =
    let s = c.loop-c.invariant in
    let b = c.pads_of-b.ensures in
    (omega (arith, b.room), pass_next _ s.1 refl (lists_block unused s.1.so_far b (omega (arith, s.0, c.requires.1, c.loop-c-test.true))) c.loop-c-test.true)

pub returns : goal.returns
returns c = pass_all c.loop-c.invariant.1 c.loop-c-test.false
