-- `read_rows` meets its contract: each row is put behind those read before it.
use native.Mathlib.Omega.{arith}
use mathlib.Core.Path.{sym, ap}
use mathlib.Core.List.{[], ◌∷◌, append-nil, append_assoc}
use Rattle.std.proofs.lemmas.Result.{err_from_is_err_and}
use Rattle.std.proofs.Common.{Ok, Err}
use Rattle.lists.proofs.Tables.{holds_as}
use Rattle.table.proofs.Rows.{pushed_holds}
use Rattle.file_rows.proofs.SoFar.{sofar_start, sofar_next, sofar_stop, sofar_end}
use Rattle.file_rows.proofs.rows.read_rows.Goals as goal

pub rows-init : goal.rows-init
rows-init g c = record {
  count = omega arith;
  rows = λ f r h z ys p. sofar_start f c.args.bytes.now c.args.n c.args.at h (holds_as (sym (append-nil ys)) p);
}

pub returns-in_err-row-clause-read : goal.returns-in_err-row-clause-read
returns-in_err-row-clause-read g c = λ f r h z ys t.
    let p = err_from_is_err_and c.from_residual.result c.from_residual.ensures.1 in
    let i = c.rows.invariant.rows f r h z ys t in
    rw (p.1, p.2) (sofar_stop i c.rows-test.true (r c.args.bytes c.rows.next (Err c.in_err-row.field-0.0) c.in_err-row.ensures).0)

pub rows-preserved : goal.rows-preserved
rows-preserved g c = record {
  count = omega (arith, ap (λ t. t.count) c.push.ensures);
  rows = λ f r h z ys t.
      let i = c.rows.invariant.rows f r h z ys t in
      let o = r c.args.bytes c.rows.next (Ok (c.in_ok-row.row, c.in_ok-row.behind)) c.in_ok-row.ensures in
      sofar_next i c.in_ok-row.row c.rows-test.true o.0 o.1
      (λ xs q. holds_as (append_assoc ys xs (c.in_ok-row.row ∷ [])) (pushed_holds c.in_ok-row.row q (omega arith) c.push.ensures));
}

pub returns-clause-read : goal.returns-clause-read
returns-clause-read g c = λ f r h z ys t. sofar_end (c.rows.invariant.rows f r h z ys t) (omega arith) (λ xs p. p)
