-- A pass: the numbers of the pads passed stand behind those of the ends.
use Rattle.std.proofs.Common.{arith, refl, sym, ap, ◌∙◌, subst, append-nil, append_assoc, ◌≡◌, ◌++◌, List, length, ℕ}
use Rattle.std.specs.List.{flat_map}
use lib.ListN.{length-set}
use Rattle.lists.proofs.Tables.{long}
use Rattle.lists.proofs.Passes.{pass_start, pass_next, gather_map}
use Rattle.table.proofs.Passing.{pass_all}
use Rattle.merge.specs.Numbers.{Numbers}
use Rattle.merge.specs.Codes.{Mark, end_marks, marks_with_kind, Coded, number_rows}
use Rattle.merge.proofs.Coding.{coded_push}
use Rattle.merge.proofs.codes.mark_codes.Goals as goal

pub loop-p-init : goal.loop-p-init
loop-p-init c = (search long, omega arith, pass_start _ _ (subst (λ (m : List Mark). Coded m (number_rows c.end_codes-out.result)) (sym (append-nil (flat_map end_marks c.args.ws.now))) c.end_codes-out.ensures.0))

pub loop-p-preserved : goal.loop-p-preserved
loop-p-preserved c =
    let s = c.loop-p.invariant in
    let one = ap (λ (t : Numbers). t.count) c.push.ensures in
    (ap (λ (t : Numbers). length t.rows) c.push.ensures ∙ length-set c.loop-p.out.rows c.loop-p.out.count c.code.result ∙ s.0, omega (arith, one), pass_next _ s.2 refl (subst (λ (m : List Mark). Coded m (number_rows c.push.new.self)) (append_assoc (flat_map end_marks c.args.ws.now) _ _) (coded_push _ _ s.2.so_far c.code.ensures (omega arith) c.push.ensures)) c.loop-p-test.true)

pub returns : goal.returns
unfolding marks_with_kind
returns c = (subst (λ (m : List Mark). Coded (flat_map end_marks c.args.ws.now ++ m) (number_rows c.loop-p.out)) (gather_map _ _) (pass_all c.loop-p.invariant.2 c.loop-p-test.false), omega arith)
