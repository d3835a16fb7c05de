-- `nets::aliases` meets its contract: the aliases lead to the nets that the wires passed make. (The power pads are known by the first aliases.)
use mathlib.Core.Path.{◌≡◌, sym, subst}
use mathlib.Core.List.{[], map}
use native.Mathlib.Omega.{arith}
use lib.ListN.{get_or, take}
use lib.Seq.{take_all}
use Rattle.nets.specs.Tables.{Rooted, link_ends}
use Rattle.nets.proofs.Chains.{net_with}
use Rattle.nets.proofs.Walks.{wire_joints, wire_next}
use Rattle.nets.proofs.Rooted.{rooted_start, rooted_next}
use Rattle.nets.proofs.aliases.Goals as goal

pub loop-wire-init : goal.loop-wire-init
loop-wire-init c = λ ps e. subst (Rooted (net_with ps [])) (sym e) (rooted_start ps)

pub join-requires : goal.join-requires
join-requires c =
    let l = c.loop-wire in
    let j = wire_joints c.args.wires.now c.requires.ends l.wire-index c.loop-wire-test.true (record { from = 0; to = 0 }) in
    record { falling = (l.invariant c.args.powers.now c.start-alias.ensures).falls; joint_u = j.0; joint_v = j.1 }

pub loop-wire-preserved : goal.loop-wire-preserved
loop-wire-preserved c =
    let l = c.loop-wire in
    let lt = c.loop-wire-test.true in
    let w = get_or c.args.wires.now l.wire-index (record { from = 0; to = 0 }) in
    let j = wire_joints c.args.wires.now c.requires.ends l.wire-index lt (record { from = 0; to = 0 }) in
    λ ps e. rw (wire_next c.args.wires.now c.requires.ends l.wire-index lt (record { from = 0; to = 0 }), c.join.ensures) (rooted_next w.from w.to j.0.high j.1.high (l.invariant ps e))

pub returns : goal.returns
returns c =
    let l = c.loop-wire in
    let e : take l.wire-index c.args.wires.now ≡ c.args.wires.now = take_all l.wire-index c.args.wires.now (omega arith) in
    subst (λ ws. Rooted (net_with c.args.powers.now (map link_ends ws)) l.alias) e (l.invariant c.args.powers.now c.start-alias.ensures)
