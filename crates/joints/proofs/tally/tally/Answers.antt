-- The numbers are those of the tables, and the sum is twice the wires and the pads.
use native.Mathlib.Omega.{arith}
use mathlib.Core.Path.{◌≡◌, ap, ◌∙◌}
use Rattle.sheet.specs.Parts.{pads_of}
use lib.ListN.{length}
use Rattle.lists.proofs.Tables.{long}
use Rattle.joints.proofs.Drawing.{few_joints, few_pads, tally_is}
use Rattle.joints.proofs.tally.tally.Goals as goal

pub overflow_cast-result-2 : goal.overflow_cast-result-2
overflow_cast-result-2 c =
    let wires : length c.args.d.wires.rows ≡ 512 = search long in
    let parts : length c.args.d.components.rows ≡ 128 = search long in
    omega (arith, few_joints c.args.d c.requires wires parts)

pub overflow_add-result : goal.overflow_add-result
overflow_add-result c =
    let wires : length c.args.d.wires.rows ≡ 512 = search long in
    let parts : length c.args.d.components.rows ≡ 128 = search long in
    omega (arith, few_pads c.args.d c.requires wires parts (c.count_pads-pads.ensures ∙ ap (λ cs. length (pads_of cs)) c.in_use.ensures))

pub overflow_cast-result-4 : goal.overflow_cast-result-4
overflow_cast-result-4 c =
    let wires : length c.args.d.wires.rows ≡ 512 = search long in
    let parts : length c.args.d.components.rows ≡ 128 = search long in
    omega (arith, few_pads c.args.d c.requires wires parts (c.count_pads-pads.ensures ∙ ap (λ cs. length (pads_of cs)) c.in_use.ensures))

pub returns : goal.returns
returns c =
    let wires : length c.args.d.wires.rows ≡ 512 = search long in
    let parts : length c.args.d.components.rows ≡ 128 = search long in
    tally_is c.args.d c.requires wires parts (c.count_pads-pads.ensures ∙ ap (λ cs. length (pads_of cs)) c.in_use.ensures)
