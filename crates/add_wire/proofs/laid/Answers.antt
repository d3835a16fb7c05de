-- The rows before the run, the run and the rows behind it, each cut at the standing joints.
use Rattle.std.proofs.Common.{◌∙◌, ap, length}
use Rattle.std.specs.Option.{unwrap_or}
use Rattle.std.proofs.lemmas.Result.{MatchResult-from_err}
use Rattle.sheet.specs.Geometry.{first}
use Rattle.lists.proofs.Insert.{span_le}
use Rattle.table.proofs.Positions.{place_is}
use Rattle.table.proofs.Rows.{empty_holds}
use Rattle.add_wire.proofs.Laying.{front_over, run_over, back_over, laid_table, place_of, place_within}
use Rattle.add_wire.proofs.laid.Goals as goal

pub split_at-requires : goal.split_at-requires
split_at-requires c = place_within _ _ (c.unwrap_or.ensures ∙ ap (λ o. unwrap_or o (length c.args.ws.now)) c.row_after.ensures)

pub returns-in_err-cut_rows : goal.returns-in_err-cut_rows
returns-in_err-cut_rows c = let q = c.requires in
    MatchResult-from_err _ _ _ c.from_residual.ensures.0
    (λ _. front_over _ _ _ c.args.pads.now (place_of _ _ (c.unwrap_or.ensures ∙ ap (λ o. unwrap_or o (length c.args.ws.now)) c.row_after.ensures)) c.standing-marks.ensures q.low q.unmet q.same_line c.split_at.ensures.front c.split_at.ensures.back (empty_holds c.empty-out.ensures) c.in_err-cut_rows.ensures)

pub returns-in_err-cut_run : goal.returns-in_err-cut_run
returns-in_err-cut_run c = let q = c.requires in
    MatchResult-from_err _ _ _ c.from_residual-in_err-cut_run.ensures.0
    (λ _. run_over _ _ _ c.args.pads.now (place_of _ _ (c.unwrap_or.ensures ∙ ap (λ o. unwrap_or o (length c.args.ws.now)) c.row_after.ensures)) c.standing-marks.ensures q.low q.unmet q.same_line c.split_at.ensures.front c.split_at.ensures.back (empty_holds c.empty-out.ensures) c.in_ok-cut_rows.ensures c.in_err-cut_run.ensures)

pub returns-in_err-cut_rows-2 : goal.returns-in_err-cut_rows-2
returns-in_err-cut_rows-2 c = let q = c.requires in
    MatchResult-from_err _ _ _ c.from_residual-in_err-cut_rows-2.ensures.0
    (λ _. back_over _ _ _ c.args.pads.now (place_of _ _ (c.unwrap_or.ensures ∙ ap (λ o. unwrap_or o (length c.args.ws.now)) c.row_after.ensures)) c.standing-marks.ensures q.low q.unmet q.same_line c.split_at.ensures.front c.split_at.ensures.back (empty_holds c.empty-out.ensures) c.in_ok-cut_rows.ensures c.in_ok-cut_run.ensures c.in_err-cut_rows-2.ensures)

pub returns : goal.returns
returns c = let q = c.requires in
    laid_table _ _ _ c.args.pads.now (place_of _ _ (c.unwrap_or.ensures ∙ ap (λ o. unwrap_or o (length c.args.ws.now)) c.row_after.ensures)) c.standing-marks.ensures q.low q.unmet q.same_line c.split_at.ensures.front c.split_at.ensures.back (empty_holds c.empty-out.ensures) c.in_ok-cut_rows.ensures c.in_ok-cut_run.ensures c.in_ok-cut_rows-2.ensures
