-- `opening::read_up_to` meets its contract: the rows are read, the drawing checked, and the end looked at.
use native.Mathlib.Omega.{arith}
use mathlib.Core.Path.{sym}
use Rattle.std.proofs.lemmas.Result.{err_from_is_err_and}
use Rattle.groups.proofs.Held.{all_bytes, bytes_from}
use Rattle.opening.proofs.Opening.{rows_refused, sound, not_lawful, not_last, well_read}
use Rattle.opening.proofs.read_up_to.Goals as goal

pub returns-in_err-f-clause-is : goal.returns-in_err-f-clause-is
returns-in_err-f-clause-is c =
    let p = err_from_is_err_and c.from_residual.result c.from_residual.ensures.1 in
    rw (p.1, p.2) (sym (rows_refused c.args.last _ c.in_err-f.ensures))

pub drawn-d-requires : goal.drawn-d-requires
drawn-d-requires c =
    let a = c.args in
    sound a.at c.in_ok-f.ensures (bytes_from a.at (all_bytes a.bytes.now (λ i. let h = c.type_inv.bytes i in omega (arith, h))))

pub returns-then-c-ne0-clause-is : goal.returns-then-c-ne0-clause-is
returns-then-c-ne0-clause-is c = not_lawful c.args.at c.in_ok-f.ensures c.drawn-d.ensures c.check-c.ensures c.args.last c.if-c-ne0.true

pub returns-then-last-next-clause-is : goal.returns-then-last-next-clause-is
returns-then-last-next-clause-is c = not_last c.args.at c.in_ok-f.ensures c.drawn-d.ensures c.check-c.ensures c.args.last (omega arith) c.if-last-next.true

pub returns : goal.returns
returns c = record {
  is = well_read c.args.at c.in_ok-f.ensures c.drawn-d.ensures c.check-c.ensures c.args.last c.if-c-ne0.false c.if-last-next.false;
  inside = c.in_ok-f.ensures.inside;
}
