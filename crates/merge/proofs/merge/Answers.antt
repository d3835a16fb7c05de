-- A pass from the front: what is out, the wire still growing and what the rows left make of it are the whole, whatever the pads.
use Rattle.std.proofs.Common.{arith, refl, ap, sym, subst, ◌≡◌, ◌<◌, List, length, take}
use lib.Seq.{take_all}
use Rattle.lists.proofs.Tables.{holds_as}
use Rattle.sheet.specs.Merge.{merge}
use Rattle.sheet.specs.declared.Wire.{Wire}
use Rattle.table.proofs.Rows.{empty_holds}
use Rattle.merge.specs.Codes.{Flagged}
use Rattle.merge.specs.Following.{goes_on}
use Rattle.merge.proofs.Merging.{merge_start, merge_join, merge_push, merge_end, merge_none}
use Rattle.merge.proofs.merge.Goals as goal
use Rattle.merge.proofs.merge.Goals.{then-goes_on-held, else-goes_on-held}

pub returns-then-ws-eq0 : goal.returns-then-ws-eq0
returns-then-ws-eq0 c =
    let all = take_all (length c.args.ws.now) c.args.ws.now (omega arith) in
    holds_as (ap (λ (l : List Wire). merge l c.args.pads.now) all) (merge_none _ _ _ c.if-ws-eq0.true (empty_holds c.empty-out.ensures))

pub loop-i-init : goal.loop-i-init
loop-i-init c = let z = empty_holds c.empty-out.ensures in (omega arith, omega (arith, z.count_is), λ ps f. merge_start _ _ ps _ z f (omega arith) (omega arith))

pub loop-i-preserved : goal.loop-i-preserved
unfolding goes_on
loop-i-preserved c = let s = c.loop-i.invariant.2 in
    elim c.if-goes_on-held.branch [
      | then-goes_on-held w ↦ (omega arith, rw w.out-is (omega arith), λ ps f. rw (w.out-is, w.cur-is) (merge_join _ (s ps f) f c.goes_on.ensures refl c.loop-i-test.true (omega arith) w.if-goes_on-held.true))
      | else-goes_on-held w ↦ (omega arith, rw (w.out-is, w.push.ensures) (omega arith), λ ps f. rw (w.out-is, w.push.ensures, w.cur-is) (merge_push _ (s ps f) f c.goes_on.ensures refl c.loop-i-test.true (omega arith) w.if-goes_on-held.false (omega arith)))
    ]

pub returns : goal.returns
returns c =
    let all = take_all (length c.args.ws.now) c.args.ws.now (omega arith) in
    let f = subst (λ (l : List Wire). Flagged l c.args.pads.now c.held_ends-held.result) (sym all) c.held_ends-held.ensures in
    rw c.push-2.ensures (holds_as (ap (λ (l : List Wire). merge l c.args.pads.now) all) (merge_end (c.loop-i.invariant.2 _ f) (omega arith) (omega arith) (omega arith)))
