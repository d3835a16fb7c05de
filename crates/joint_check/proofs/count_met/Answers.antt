-- After i keys each of them met a row, and the counts tell how often each row was met.
use native.Mathlib.Omega.{arith}
use mathlib.Core.Path.{refl}
use Rattle.joint_check.proofs.Meeting.{keys_rise, meeting_start, meeting_few, meeting_next, meeting_end}
use Rattle.joint_check.proofs.count_met.Goals as goal

pub joint_keys-codes-requires : goal.joint_keys-codes-requires
joint_keys-codes-requires c = c.requires.0

pub chain-index-requires : goal.chain-index-requires
chain-index-requires c = c.requires.0

pub loop-k-init : goal.loop-k-init
loop-k-init c = meeting_start _ _ c.requires.0 c.joint_keys-codes.ensures.size _

pub seek-r-requires : goal.seek-r-requires
seek-r-requires c = (c.requires.0, c.chain-index.ensures)

pub bounds-counts-r : goal.bounds-counts-r
bounds-counts-r c = let p = c.requires.0 in omega arith

pub overflow_add-counts : goal.overflow_add-counts
overflow_add-counts c = let p = c.requires in
    omega (arith, meeting_few _ _ p.0 c.joint_keys-codes.ensures.size c.loop-k.invariant c.seek-r.result (omega arith))

pub loop-k-preserved : goal.loop-k-preserved
loop-k-preserved c =
    let p = c.requires in
    let ks = c.joint_keys-codes.ensures in
    meeting_next _ _ p.0 ks.size c.loop-k.invariant c.seek-r.result (omega arith) (keys_rise p.1.1 ks) c.seek-r.ensures refl c.loop-k-test.true

pub returns : goal.returns
returns c = meeting_end c.loop-k.invariant c.loop-k-test.false c.joint_keys-codes.ensures.spots
