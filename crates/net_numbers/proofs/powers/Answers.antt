-- `net_numbers::powers` meets its contract: the power symbols among the rows passed.
use native.Mathlib.Omega.{arith}
use borrow.Author.Tests.{eq-eqb, ne_eqb}
use Rattle.lists.proofs.Tables.{long, holds_as, holds_none}
use mathlib.Core.Path.{ap}
use Rattle.sheet.specs.Tables.{Components}
use Rattle.sheet.specs.Drawings.{zero_component}
use Rattle.lists.proofs.Passes.{pass_start, pass_next, pass_skip, pass_end, only_yes, only_no, keep_gather}
use Rattle.table.proofs.Rows.{pushed_holds}
use Rattle.net_numbers.proofs.powers.Goals as goal
use Rattle.net_numbers.proofs.powers.Goals.{then-c-eq0, else-c-eq0}

pub loop-i-init : goal.loop-i-init
loop-i-init c = (search long, omega arith, pass_start _ _ (holds_none 128 zero_component))

pub loop-i-preserved : goal.loop-i-preserved
loop-i-preserved c =
    let s = c.loop-i.invariant.2 in
    elim c.if-c-eq0.branch [
      | then-c-eq0 w ↦ (omega arith, rw w.out-is (omega (arith, ap (λ (t : Components). t.count) w.push.ensures)), rw w.out-is (pass_next _ s (only_yes _ _ (eq-eqb _ 0 w.if-c-eq0.true)) (pushed_holds _ s.so_far (omega arith) w.push.ensures) (omega arith)))
      | else-c-eq0 w ↦ (omega arith, rw w.out-is (omega arith), rw w.out-is (pass_skip _ s (only_no _ _ (ne_eqb _ 0 w.if-c-eq0.false)) (omega arith)))
    ]

pub returns : goal.returns
returns c = holds_as (keep_gather _ _) (pass_end c.args.cs.count c.loop-i.invariant.2 (omega arith))
