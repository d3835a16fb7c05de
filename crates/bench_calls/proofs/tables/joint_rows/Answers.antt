-- The joints of the wires and pads.
use Rattle.std.proofs.Common.{arith, ap, ◌∙◌}
use lib.ListN.{length-take}
use Rattle.sheet.specs.Geometry.{marks}
use Rattle.sheet.specs.Joints.{joints_of}
use Rattle.sheet.specs.Drawings.{joint_table}
use Rattle.sheet.specs.Parts.{pads_of}
use Rattle.bench_calls.proofs.Rowing.{joint_count, joints_fit}
use Rattle.bench_calls.proofs.tables.joint_rows.Goals as goal

pub all_pads-pads-requires : goal.all_pads-pads-requires
all_pads-pads-requires c = let p = c.requires.1 in (rw c.in_use.ensures p.each, rw c.in_use.ensures (omega (arith, p.room, length-take c.args.cs.count c.args.cs.rows)))

pub count_joints-t-requires : goal.count_joints-t-requires
count_joints-t-requires c =
    let ps = c.all_pads-pads in
    (rw c.in_use-2.ensures (omega (arith, c.requires.0, length-take c.args.ws.count c.args.ws.rows)), rw c.in_use-3.ensures (omega (arith, ps.ensures.room, length-take ps.result.count ps.result.rows)))

pub overflow_cast-result : goal.overflow_cast-result
overflow_cast-result c =
    let js = c.count_joints-t.ensures ∙ (λ i. joint_table (joints_of (marks (c.in_use-2.ensures i) (c.in_use-3.ensures i)))) in
    omega (arith, joints_fit c.args.ws c.args.cs js (c.all_pads-pads.ensures.points_are ∙ ap pads_of c.in_use.ensures) c.requires.0 c.requires.1.room)

pub returns : goal.returns
returns c =
    let js = c.count_joints-t.ensures ∙ (λ i. joint_table (joints_of (marks (c.in_use-2.ensures i) (c.in_use-3.ensures i)))) in
    joint_count c.args.ws c.args.cs js (c.all_pads-pads.ensures.points_are ∙ ap pads_of c.in_use.ensures)
