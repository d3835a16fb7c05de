-- `panel_rows::answer_all` meets its contract: the drawing stays lawful, and the buffers keep their lengths.
use Rattle.std.proofs.Common.{rules, arith, refl}
use Rattle.panel_rows.proofs.answer_all.Goals as goal

pub loop-init : goal.loop-init
loop-init g c = (c.empty_drawing-d.ensures.1, omega arith, refl, refl, refl)

pub answer_chunk-r-requires : goal.answer_chunk-r-requires
answer_chunk-r-requires g c =
    let i = c.loop.invariant in
    record { lawful = i.0; long = omega arith; few = i.1; room = omega arith }

pub loop-preserved : goal.loop-preserved
loop-preserved g c =
    let a = c.answer_chunk-r in
    (a.ensures.lawful, a.ensures.few, search rules, search rules, search rules)

pub finish-requires : goal.finish-requires
finish-requires g c =
    let i = c.loop.invariant in
    record { lawful = i.0; within = omega arith; room = omega arith }
