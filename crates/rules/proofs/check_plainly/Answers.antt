-- Each way out of the check has the tests that led there.
use mathlib.Core.Path.{◌∙◌, sym, ap}
use Rattle.limits.proofs.Rooms.{wires_fit}
use Rattle.row_order.specs.RowOrder.{check2}
use Rattle.rules.proofs.Answers.{within, by_3, by_4, at_1, at_2, at_3, at_4, past_4}
use Rattle.rules.proofs.check_plainly.Goals as goal

pub returns-then-not-within_limits : goal.returns-then-not-within_limits
returns-then-not-within_limits c = c.broken_rule.ensures ∙ at_1 c.args.d (sym c.within_limits.ensures ∙ c.if-not-within_limits.true)

pub returns-then-not-wires_apart : goal.returns-then-not-wires_apart
returns-then-not-wires_apart c = c.broken_rule-then-not-wires_apart.ensures ∙ at_2 c.args.d (sym c.within_limits.ensures ∙ c.if-not-within_limits.false) (ap check2 (sym c.in_use-ws.ensures) ∙ sym c.wires_apart.ensures ∙ c.if-not-wires_apart.true)

pub count_afresh-counted-requires : goal.count_afresh-counted-requires
count_afresh-counted-requires c = within c.args.d (sym c.within_limits.ensures ∙ c.if-not-within_limits.false)

pub returns-then-not-none_inside : goal.returns-then-not-none_inside
returns-then-not-none_inside c =
    c.broken_rule-then-not-none_inside.ensures ∙ at_3 c.args.d (sym c.within_limits.ensures ∙ c.if-not-within_limits.false) (ap check2 (sym c.in_use-ws.ensures) ∙ sym c.wires_apart.ensures ∙ c.if-not-wires_apart.false)
    (sym (by_3 c.args.d (c.in_use-js.ensures ∙ c.count_afresh-counted.ensures) c.in_use-ws.ensures) ∙ sym c.none_inside.ensures ∙ c.if-not-none_inside.true)

pub returns-then-not-all_parted : goal.returns-then-not-all_parted
returns-then-not-all_parted c =
    let one = sym c.within_limits.ensures ∙ c.if-not-within_limits.false in
    let two = ap check2 (sym c.in_use-ws.ensures) ∙ sym c.wires_apart.ensures ∙ c.if-not-wires_apart.false in
    c.broken_rule-then-not-all_parted.ensures ∙ at_4 c.args.d one two (sym (by_3 c.args.d (c.in_use-js.ensures ∙ c.count_afresh-counted.ensures) c.in_use-ws.ensures) ∙ sym c.none_inside.ensures ∙ c.if-not-none_inside.false)
    (sym (by_4 c.args.d (c.in_use-js.ensures ∙ c.count_afresh-counted.ensures) c.in_use-ws.ensures (wires_fit c.args.d one) two) ∙ sym c.all_parted.ensures ∙ c.if-not-all_parted.true)

pub check_boxes_and_joints-requires : goal.check_boxes_and_joints-requires
check_boxes_and_joints-requires c = (within c.args.d (sym c.within_limits.ensures ∙ c.if-not-within_limits.false), (c.in_use-js.ensures ∙ c.count_afresh-counted.ensures))

pub returns : goal.returns
returns c =
    let one = sym c.within_limits.ensures ∙ c.if-not-within_limits.false in
    let two = ap check2 (sym c.in_use-ws.ensures) ∙ sym c.wires_apart.ensures ∙ c.if-not-wires_apart.false in
    c.check_boxes_and_joints.ensures ∙ past_4 c.args.d one two (sym (by_3 c.args.d (c.in_use-js.ensures ∙ c.count_afresh-counted.ensures) c.in_use-ws.ensures) ∙ sym c.none_inside.ensures ∙ c.if-not-none_inside.false)
    (sym (by_4 c.args.d (c.in_use-js.ensures ∙ c.count_afresh-counted.ensures) c.in_use-ws.ensures (wires_fit c.args.d one) two) ∙ sym c.all_parted.ensures ∙ c.if-not-all_parted.false)
