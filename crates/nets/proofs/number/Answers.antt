-- `nets::number` meets its contract: the pads passed have the numbers of their nets.
use mathlib.Core.Path.{◌≡◌}
use mathlib.Core.List.{List, []}
use Prim.Native.Nat.{ℕ, ◌<◌}
use native.Mathlib.Omega.{arith}
use lib.ListN.{length, get_or, take}
use lib.Seq.{take_all}
use Rattle.nets.specs.Tables.{Falling, EachJoint}
use Rattle.nets.proofs.Walks.{pad_joint, pads_next}
use Rattle.nets.proofs.Ranks.{ranked_none, passed_none, passed_rank, passed_next}
use Rattle.nets.proofs.number.Goals as goal

pub loop-i-init : goal.loop-i-init
loop-i-init c = passed_none (c.meet-count.ensures [] ranked_none)

-- the net of the pad that the pass is at
at-net : (nets : List ℕ) (falls : Falling nets) (pads : List ℕ) (each : EachJoint pads) (i : ℕ) → i < length pads → get_or nets (get_or pads i 0) 0 < 1409
at-net nets falls pads each i lt = let j = pad_joint pads each i lt in omega (arith, falls.low (get_or pads i 0), j.high)

pub bounds-nets-n : goal.bounds-nets-n
bounds-nets-n c = (pad_joint c.args.pads.now c.requires.joints c.loop-i.i c.loop-i-test.true).high

pub meet-count-requires-in-loop-i : goal.meet-count-requires-in-loop-i
meet-count-requires-in-loop-i c = record {
  net_low = at-net c.args.nets c.requires.falling c.args.pads.now c.requires.joints c.loop-i.i c.loop-i-test.true;
  count_low = omega (arith, c.requires.few, c.loop-i.invariant.few);
}

pub overflow_sub-out : goal.overflow_sub-out
overflow_sub-out c =
    let l = c.loop-i in
    let m = c.meet-count-in-loop-i in
    let net = at-net c.args.nets c.requires.falling c.args.pads.now c.requires.joints l.i c.loop-i-test.true in
    passed_rank _ l.count l.given l.out l.i l.invariant _ net m.result m.new.given (m.ensures _ l.invariant.ranked)

pub loop-i-preserved : goal.loop-i-preserved
loop-i-preserved c =
    let l = c.loop-i in
    let m = c.meet-count-in-loop-i in
    let a = c.args in
    let net = at-net a.nets c.requires.falling a.pads.now c.requires.joints l.i c.loop-i-test.true in
    let room : l.i < 384 = omega (arith, c.requires.few) in
    let next = passed_next _ l.count l.given l.out l.i l.invariant _ net m.result m.new.given (m.ensures _ l.invariant.ranked) room in
    rw (pads_next a.pads.now c.requires.joints l.i c.loop-i-test.true (λ n. get_or a.nets n 0)) next

pub returns : goal.returns
returns c =
    let l = c.loop-i in
    let e : take l.i c.args.pads.now ≡ c.args.pads.now = take_all l.i c.args.pads.now (omega arith) in
    rw (← e) l.invariant.numbers.rows_are
