-- `net_numbers::pad_numbers` meets its contract, by those of its callees.
use Rattle.lists.specs.Tables.{pad}
use mathlib.Core.Path.{ap, ◌∙◌}
use native.Mathlib.Omega.{arith}
use lib.ListN.{length-take}
use Rattle.net_numbers.proofs.Drawn.{ends_jointed, parts_fit, pads_jointed, powers_fit, powers_jointed, numbers_drawn}
use Rattle.net_numbers.proofs.pad_numbers.Goals as goal

pub joint_keys-keys-requires : goal.joint_keys-keys-requires
joint_keys-keys-requires c = rw c.in_use-joints.ensures (ends_jointed c.requires).room

pub links-wires-requires : goal.links-wires-requires
links-wires-requires c =
    let t = c.args.d.wires in
    (rw c.in_use.ensures (omega (arith, c.requires.rule1.wire_room, length-take t.count t.rows)), (rw (c.in_use.ensures, c.in_use-joints.ensures) (ends_jointed c.requires), c.joint_keys-keys.ensures))

pub all_pads-feeding-requires : goal.all_pads-feeding-requires
all_pads-feeding-requires c =
    let p = powers_fit c.requires c.powers-sources.ensures in
    let t = c.powers-sources.result in
    (rw c.in_use-2.ensures p.each, rw c.in_use-2.ensures (omega (arith, p.room, length-take t.count t.rows)))

pub joint_numbers-fed-requires : goal.joint_numbers-fed-requires
joint_numbers-fed-requires c =
    let t = c.all_pads-feeding.result in
    let all = powers_jointed c.requires c.powers-sources.ensures (rw c.in_use-2.ensures at c.all_pads-feeding.ensures) in
    (rw c.in_use-3.ensures (omega (arith, c.all_pads-feeding.ensures.room, length-take t.count t.rows)), (rw (c.in_use-3.ensures, c.in_use-joints.ensures) all, c.joint_keys-keys.ensures))

pub all_pads-points-requires : goal.all_pads-points-requires
all_pads-points-requires c =
    let p = parts_fit c.requires in
    let t = c.args.d.components in
    (rw c.in_use-4.ensures p.each, rw c.in_use-4.ensures (omega (arith, p.room, length-take t.count t.rows)))

pub joint_numbers-pads-requires : goal.joint_numbers-pads-requires
joint_numbers-pads-requires c =
    let t = c.all_pads-points.result in
    let all = pads_jointed c.requires (rw c.in_use-4.ensures at c.all_pads-points.ensures) in
    (rw c.in_use-5.ensures (omega (arith, c.all_pads-points.ensures.room, length-take t.count t.rows)), (rw (c.in_use-5.ensures, c.in_use-joints.ensures) all, c.joint_keys-keys.ensures))

pub returns : goal.returns
returns c =
    let js = c.in_use-joints.ensures in
    let feeding = rw c.in_use-2.ensures at c.all_pads-feeding.ensures in
    let points = rw c.in_use-4.ensures at c.all_pads-points.ensures in
    let wires = rw (js, c.in_use.ensures) at c.links-wires.ensures in
    let fed = rw (js, c.in_use-3.ensures) at c.joint_numbers-fed.ensures in
    let pads = rw (js, c.in_use-5.ensures) at c.joint_numbers-pads.ensures in
    c.pad_nets.ensures ∙ ap (pad 384 0) (numbers_drawn c.requires c.powers-sources.ensures feeding points wires fed pads)
