-- `panel_rows::answer` meets its contract: what a line prints is within the buffer.
use Rattle.std.proofs.Common.{sym, length-take-le}
use Rattle.panel_rows.proofs.Fitted.{rows_fit}
use Rattle.panel_rows.proofs.answer.Goals as goal

pub slice_bounds-write_block-end : goal.slice_bounds-write_block-end
slice_bounds-write_block-end g c = let p = c.rows_step-s in rows_fit p.ensures p.auto.out

pub slice_bounds-write_block-end-2 : goal.slice_bounds-write_block-end-2
slice_bounds-write_block-end-2 g c = let p = c.rows_step-s in sym (length-take-le _ _ (rows_fit p.ensures p.auto.out))

pub returns : goal.returns
returns g c = let p = c.rows_step-s.ensures in (p.drawing, p.lawful)
