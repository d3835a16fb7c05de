-- A pass: the table holds those of the rows passed that pass the test.
use Rattle.std.proofs.Common.{arith, sym, ◌∙◌}
use Rattle.lists.proofs.Finding.{get_in}
use Rattle.lists.proofs.Tables.{holds_as, holds_none}
use Rattle.lists.proofs.Passes.{pass_start, pass_next, pass_skip, only_yes, only_no, keep_gather}
use Rattle.table.proofs.Rows.{pushed_holds}
use Rattle.table.proofs.Passing.{pass_all}
use Rattle.sheet.specs.Drawings.{zero_component}
use Rattle.parts.proofs.square.keep.Goals as goal
use Rattle.parts.proofs.square.keep.Goals.{then-test, else-test}

pub loop-c-init : goal.loop-c-init
loop-c-init g c = (omega arith, λ f h. pass_start _ _ (holds_none 128 zero_component))

pub test-requires : goal.test-requires
test-requires g c = c.requires.callable _ (get_in _ _ _ c.loop-c-test.true)

pub loop-c-preserved : goal.loop-c-preserved
loop-c-preserved g c =
    let s = c.loop-c.invariant.1 in
    let m = get_in c.args.cs.now c.loop-c.c-index _ c.loop-c-test.true in
    elim c.if-test.branch [
      | then-test w ↦ (rw (w.out-is, w.push.ensures) (omega arith), λ f h. rw w.out-is (pass_next _ (s f h) (only_yes _ _ (sym (h _ _ m c.test.ensures) ∙ w.if-test.true)) (pushed_holds _ (s f h).so_far (omega arith) w.push.ensures) c.loop-c-test.true))
      | else-test w ↦ (rw w.out-is (omega arith), λ f h. rw w.out-is (pass_skip _ (s f h) (only_no _ _ (sym (h _ _ m c.test.ensures) ∙ w.if-test.false)) c.loop-c-test.true))
    ]

pub returns : goal.returns
returns g c = λ f h. holds_as (keep_gather _ _) (pass_all (c.loop-c.invariant.1 f h) c.loop-c-test.false)
