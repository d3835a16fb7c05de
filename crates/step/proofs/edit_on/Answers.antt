-- `step::edit_on` meets its contract: each command's edit by its numbers.
use Rattle.std.proofs.Common.{sym, ap, ◌∙◌, rules, Some}
use Rattle.script.specs.Commands.{commanded}
use Rattle.script.proofs.Labels.{label_inside}
use Rattle.step.proofs.Asking.{horizontal, vertical, delete, turn, mirror, by_three, by_place, by_nets}
use Rattle.step.proofs.edit_on.Goals as goal

pub returns-in-Horizontal : goal.returns-in-Horizontal
returns-in-Horizontal c =
    let a = c.args in
    let r = c.in-Horizontal in
    by_three c.requires.lawful a.t a.line.now horizontal r.y r.x1 r.x2 (ap (λ k. commanded (Some k)) r.is) (search rules) (search rules) (search rules) c.add_wire_on.ensures

pub returns-in-Vertical : goal.returns-in-Vertical
returns-in-Vertical c =
    let a = c.args in
    let r = c.in-Vertical in
    by_three c.requires.lawful a.t a.line.now vertical r.x r.y1 r.y2 (ap (λ k. commanded (Some k)) r.is) (search rules) (search rules) (search rules) c.add_wire_on-in-Vertical.ensures

pub slice_bounds-place-count : goal.slice_bounds-place-count
slice_bounds-place-count c = label_inside c.args.line.now (sym c.requires.said ∙ ap (λ k. commanded (Some k)) c.in-Place.is)

pub slice_bounds-place-start : goal.slice_bounds-place-start
slice_bounds-place-start c = label_inside c.args.line.now (sym c.requires.said ∙ ap (λ k. commanded (Some k)) c.in-Place.is)

pub returns-in-Place : goal.returns-in-Place
returns-in-Place c =
    let a = c.args in
    let r = c.in-Place in
    by_place c.requires.lawful a.t a.line.now r.kind r.orient r.x r.y r.label (ap (λ k. commanded (Some k)) r.is) (search rules) (search rules) (search rules) (search rules) c.place.ensures

pub returns-in-Delete : goal.returns-in-Delete
returns-in-Delete c =
    let a = c.args in
    let r = c.in-Delete in
    by_three c.requires.lawful a.t a.line.now delete r.x r.y r.size (ap (λ k. commanded (Some k)) r.is) (search rules) (search rules) (search rules) c.delete_on.ensures

pub returns-in-Turn : goal.returns-in-Turn
returns-in-Turn c =
    let a = c.args in
    let r = c.in-Turn in
    by_three c.requires.lawful a.t a.line.now turn r.x r.y r.size (ap (λ k. commanded (Some k)) r.is) (search rules) (search rules) (search rules) c.rotate_on.ensures

pub returns-in-Mirror : goal.returns-in-Mirror
returns-in-Mirror c =
    let a = c.args in
    let r = c.in-Mirror in
    by_three c.requires.lawful a.t a.line.now mirror r.x r.y r.size (ap (λ k. commanded (Some k)) r.is) (search rules) (search rules) (search rules) c.mirror_on.ensures

pub returns-in-Nets : goal.returns-in-Nets
returns-in-Nets c = by_nets c.requires.lawful c.args.t c.args.line.now (ap (λ k. commanded (Some k)) c.in-Nets.is) c.refused.ensures
