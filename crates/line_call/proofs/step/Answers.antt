-- `line_call::step` meets its contract: 10, then 9, then the line on a lawful drawing.
use Rattle.std.proofs.Common.{sym, ap, ◌∙◌, arith}
use Rattle.sheet.proofs.Owned.{owned}
use Rattle.rules.proofs.Found.{lawful_found}
use Rattle.script.specs.Commands.{commanded}
use Rattle.step.specs.Steps.{edit_of}
use Rattle.step.proofs.Stepping.{answers_line}
use Rattle.line_call.proofs.Refusing.{unlawful, refused_told}
use Rattle.line_call.proofs.step.Goals as goal

pub tell-requires : goal.tell-requires
tell-requires c = refused_told c.refused.ensures (λ z. omega arith)

pub returns-in_default : goal.returns-in_default
unfolding edit_of
returns-in_default c =
    let a = c.args in
    answers_line a.d a.t a.line.now c.in_default.ensures c.refused.ensures c.tell.ensures

pub tell-requires-then-k-ne0 : goal.tell-requires-then-k-ne0
tell-requires-then-k-ne0 c = refused_told c.refused-then-k-ne0.ensures (λ z. omega arith)

pub returns-then-k-ne0 : goal.returns-then-k-ne0
returns-then-k-ne0 c =
    let a = c.args in
    let nine = unlawful a.d a.t a.line.now c.check-k.ensures (λ z. omega arith) c.in-Some.field-0 in
    let same = ap (λ k. edit_of a.d a.t a.line.now (commanded k)) (sym c.in-Some.is) in
    answers_line a.d a.t a.line.now c.read_line-command.ensures (c.refused-then-k-ne0.ensures ∙ nine ∙ same) c.tell-then-k-ne0.ensures

pub step_on-requires : goal.step_on-requires
step_on-requires c =
    lawful_found c.args.d c.check-k.ensures (owned _ _ c.well_formed.0.1.1) (omega arith)

pub returns : goal.returns
returns c = c.step_on.ensures.tells.answers
