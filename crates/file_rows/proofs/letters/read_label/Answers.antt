-- `read_label` meets its contract: the length, and as many bytes.
use mathlib.Core.List.{[]}
use Rattle.std.proofs.lemmas.Result.{err_from_is_err_and}
use Rattle.table.proofs.Rows.{empty_holds}
use Rattle.saved.specs.Reading.{take_graphic}
use Rattle.file_rows.proofs.Labels.{no_length, no_label, label_read}
use Rattle.file_rows.proofs.letters.read_label.Goals as goal

pub returns-in_err-n-clause-is : goal.returns-in_err-n-clause-is
returns-in_err-n-clause-is c =
    let p = err_from_is_err_and c.from_residual.result c.from_residual.ensures.1 in
    rw (p.1, p.2) (no_length _ _ c.in_err-n.ensures.is)

pub returns-in_err-next-clause-is : goal.returns-in_err-next-clause-is
returns-in_err-next-clause-is c =
    let p = err_from_is_err_and c.from_residual-in_err-next.result c.from_residual-in_err-next.ensures.1 in
    rw (p.1, p.2) (no_label _ c.in_ok-n.ensures.is (c.in_err-next.ensures.read take_graphic (λ p at r q. q) c.in_ok-n.ensures.inside 0 [] (empty_holds c.empty-label.ensures)))

pub returns : goal.returns
returns c =
    let got = c.in_ok-next.ensures.read take_graphic (λ p at r q. q) c.in_ok-n.ensures.inside 0 [] (empty_holds c.empty-label.ensures) in
    record { is = label_read _ c.in_ok-n.ensures.is got; inside = got.inside }
