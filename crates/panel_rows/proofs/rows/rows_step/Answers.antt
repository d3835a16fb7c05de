-- `panel_rows::rows_step` meets its contract: the answer in front of 8,192 bytes, and the rows put behind it.
use Rattle.std.proofs.Common.{arith, ap, ◌∙◌}
use lib.ListN.{length-take}
use Rattle.telling.specs.Fitting.{asks_list}
use Rattle.telling.proofs.Telling.{answer_fits}
use Rattle.step.proofs.Fitting.{whole_answer}
use Rattle.panel_rows.proofs.Fitted.{stepped}
use Rattle.panel_rows.proofs.rows.rows_step.Goals as goal

pub slice_bounds-step_on-end-2 : goal.slice_bounds-step_on-end-2
slice_bounds-step_on-end-2 c = omega (arith, c.requires.room, length-take 8192 c.args.out.now)

pub put_behind-length-requires : goal.put_behind-length-requires
put_behind-length-requires c =
    let p = c.step_on-s in
    record { lawful = p.ensures.lawful; space = omega (arith, answer_fits p.ensures.tells.answers p.auto.out, length-take 8192 c.args.out.now) }

pub returns : goal.returns
returns c =
    let p = c.step_on-s in
    let w = whole_answer p.ensures (omega (arith, c.requires.room, length-take 8192 c.args.out.now)) in
    let list = c.asks_list-list.ensures ∙ ap asks_list c.read_line.ensures in
    stepped c.args.d c.args.line.now c.args.out.now c.requires.room list w p.ensures.lawful p.auto.out c.put_behind-length.ensures
