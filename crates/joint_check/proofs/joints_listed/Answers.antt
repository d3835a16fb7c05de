-- All wire ends and pads met a row, and each row tells how many did.
use Rattle.std.proofs.Common.{arith, subst, ap, map, length, ◌≡◌, ◌∙◌}
use mathlib.Core.Bool.{false≢true}
use lib.ListN.{length-take}
use Rattle.lists.proofs.Tables.{long}
use Rattle.sheet.specs.Joints.{joint_point}
use Rattle.sheet.specs.Drawings.{joint_rows}
use Rattle.joints.specs.Keys.{spot}
use Rattle.joints.proofs.Keying.{marks_few}
use Rattle.joint_check.specs.Meetings.{MetBy}
use Rattle.joint_check.proofs.Meeting.{met_listed}
use Rattle.joint_check.proofs.joints_listed.Goals as goal

pub count_met-requires : goal.count_met-requires
count_met-requires c =
    let a = c.args in
    let p = c.requires in
    let few = marks_few a.ws.now a.pads.now c.mark_keys-ks.ensures p.1.1.0 p.1.1.1 in
    (rw c.in_use.ensures (omega (arith, p.0, length-take a.js.count a.js.rows)), (rw c.in_use-2.ensures (omega (arith, few, length-take c.mark_keys-ks.result.count c.mark_keys-ks.result.rows)), rw c.in_use.ensures p.1.0))

pub returns-in-Some : goal.returns-in-Some
returns-in-Some c = λ e.
    let js = c.args.js in
    let p = c.requires in
    let size : length js.rows ≡ 1408 = search long in
    let met = subst (λ ps. MetBy ps (map joint_point (joint_rows js)) c.in-Some.counts) (ap (map spot) c.in_use-2.ensures ∙ c.mark_keys-ks.ensures.points) (rw c.in_use.ensures at c.in-Some.ensures) in
    met_listed js p.0 size p.1.0 met (c.counts_agree.ensures e)

pub returns-in-None : goal.returns-in-None
returns-in-None c = λ e. absurd (false≢true e)
