-- Past the first rule the drawing is within its limits, and what the looks answer is read together.
use Rattle.std.proofs.Common.{arith, sym, ap, subst, ◌∙◌, ◌≤◌}
use lib.ListN.{length, length-take}
use Rattle.sheet.specs.Geometry.{marks}
use Rattle.sheet.specs.Joints.{joints_of}
use Rattle.sheet.specs.Parts.{pads_of}
use Rattle.sheet.proofs.Owned.{owned}
use Rattle.parts.specs.Tables.{EachFits}
use Rattle.rules.proofs.Answers.{within}
use Rattle.lawful.proofs.Sound.{all_sound}
use Rattle.lawful.proofs.all_right.Goals as goal

pub all_pads-points-requires : goal.all_pads-points-requires
all_pads-points-requires c =
    let r = within c.args.d (sym c.within_limits.ensures ∙ c.if-not-within_limits.false) in
    let cs = c.args.d.components in
    (subst EachFits (sym c.in_use-cs.ensures) r.components.each, subst (λ l. length l ≤ 128) (sym c.in_use-cs.ensures) (omega (arith, length-take cs.count cs.rows, r.components.room)))

pub joints_right-requires : goal.joints_right-requires
joints_right-requires c =
    let r = within c.args.d (sym c.within_limits.ensures ∙ c.if-not-within_limits.false) in
    let ws = c.args.d.wires in
    let ps = c.all_pads-points.result in (
      r.joints,
      (subst (λ l. length l ≤ 512) (sym c.in_use-ws.ensures) (omega (arith, length-take ws.count ws.rows, r.wires)), subst (λ l. length l ≤ 384) (sym c.in_use-pads.ensures) (omega (arith, length-take ps.count ps.rows, c.all_pads-points.ensures.room))),
    )

pub none_touch-requires : goal.none_touch-requires
none_touch-requires c =
    let r = within c.args.d (sym c.within_limits.ensures ∙ c.if-not-within_limits.false) in
    subst EachFits (sym c.in_use-cs.ensures) r.components.each

pub wires_right-requires : goal.wires_right-requires
wires_right-requires c =
    let d = c.args.d in
    let r = within d (sym c.within_limits.ensures ∙ c.if-not-within_limits.false) in
    (subst (λ l. length l ≤ 1408) (sym c.in_use.ensures) (omega (arith, length-take d.joints.count d.joints.rows, r.joints)), c.in_use.ensures ∙ c.joints_right.ensures c.if-not-joints_right.false)

pub returns : goal.returns
returns c =
    let one = sym c.within_limits.ensures ∙ c.if-not-within_limits.false in
    all_sound c.args.d (owned c.args.d _ c.well_formed.0.1.1) one c.in_use-cs.ensures c.in_use-ws.ensures (c.in_use-pads.ensures ∙ c.all_pads-points.ensures.points_are ∙ ap pads_of c.in_use-cs.ensures)
    (c.joints_right.ensures c.if-not-joints_right.false ∙ ap (λ ws. joints_of (marks ws c.in_use-pads.result.now)) c.in_use-ws.ensures) c.components_rise.ensures c.none_touch.ensures c.wires_right.ensures
