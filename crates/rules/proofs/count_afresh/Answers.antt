-- The pads counted are those of the components.
use mathlib.Core.Path.{◌∙◌, ap}
use mathlib.Core.List.{List}
use native.Mathlib.Omega.{arith}
use lib.ListN.{length-take}
use Rattle.sheet.specs.Parts.{pads_of}
use Rattle.symbol.specs.declared.Point.{Point}
use Rattle.sheet.specs.Geometry.{marks}
use Rattle.sheet.specs.Joints.{joints_of}
use Rattle.sheet.specs.Drawings.{wire_rows}
use Rattle.rules.proofs.Answers.{table_rows}
use Rattle.rules.proofs.count_afresh.Goals as goal

pub all_pads-pads-requires : goal.all_pads-pads-requires
all_pads-pads-requires c =
    let p = c.requires.components in
    (rw c.in_use.ensures p.each, rw c.in_use.ensures (omega (arith, p.room, length-take c.args.d.now.components.count c.args.d.now.components.rows)))

pub count_joints-requires : goal.count_joints-requires
count_joints-requires c =
    (rw c.in_use-2.ensures (omega (arith, c.requires.wires, length-take c.args.d.now.wires.count c.args.d.now.wires.rows)), rw c.in_use-3.ensures (omega (arith, c.all_pads-pads.ensures.room, length-take c.all_pads-pads.result.count c.all_pads-pads.result.rows)))

pub returns : goal.returns
returns c =
    table_rows _ c.count_joints.ensures ∙ (λ i. joints_of (marks (c.in_use-2.ensures i) (c.in_use-3.ensures i)))
    ∙ ap (λ (ps : List Point). joints_of (marks (wire_rows c.args.d.now.wires) ps)) (c.all_pads-pads.ensures.points_are ∙ ap pads_of c.in_use.ensures)
