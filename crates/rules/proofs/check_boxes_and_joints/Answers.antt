-- Each way out has the tests that led there.
use mathlib.Core.Path.{◌∙◌, sym}
use Rattle.rules.proofs.Answers.{by_6, at_5, at_6, at_7, at_0, rises_7}
use Rattle.rules.proofs.check_boxes_and_joints.Goals as goal

pub returns-in-Some : goal.returns-in-Some
returns-in-Some c = at_5 c.args.d.now c.in_use-cs.ensures c.first_touching.ensures (c.in-Some.first, c.in-Some.second) c.in-Some.is

pub returns-then-not-all_listed : goal.returns-then-not-all_listed
returns-then-not-all_listed c =
    c.broken_rule.ensures ∙ at_6 c.args.d.now c.in_use-cs.ensures c.first_touching.ensures c.in_default.is (sym (by_6 c.args.d.now c.requires.1 c.in_use-rows.ensures) ∙ sym c.all_listed.ensures ∙ c.if-not-all_listed.true)

pub returns-then-not-wires_rise-components_rise : goal.returns-then-not-wires_rise-components_rise
returns-then-not-wires_rise-components_rise c =
    c.broken_rule-then-not-wires_rise-components_rise.ensures ∙ at_7 c.args.d.now c.in_use-cs.ensures c.first_touching.ensures c.in_default.is (sym (by_6 c.args.d.now c.requires.1 c.in_use-rows.ensures) ∙ sym c.all_listed.ensures ∙ c.if-not-all_listed.false)
    (sym (rises_7 c.args.d.now c.in_use-ws.ensures c.in_use-cs.ensures c.in_use-rows.ensures c.wires_rise.ensures c.components_rise.ensures c.joints_rise.ensures) ∙ c.if-not-wires_rise-components_rise.true)

pub returns : goal.returns
returns c =
    c.broken_rule-2.ensures ∙ at_0 c.args.d.now c.in_use-cs.ensures c.first_touching.ensures c.in_default.is (sym (by_6 c.args.d.now c.requires.1 c.in_use-rows.ensures) ∙ sym c.all_listed.ensures ∙ c.if-not-all_listed.false)
    (sym (rises_7 c.args.d.now c.in_use-ws.ensures c.in_use-cs.ensures c.in_use-rows.ensures c.wires_rise.ensures c.components_rise.ensures c.joints_rise.ensures) ∙ c.if-not-wires_rise-components_rise.false)
