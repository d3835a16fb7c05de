-- With no room for the next row's parts there is none for all.
use Rattle.std.proofs.Common.{arith, sym, ◌∙◌}
use Rattle.std.proofs.lemmas.Result.{MatchResult-from_err}
use Rattle.sheet.specs.Split.{split_at}
use Rattle.lists.proofs.Passes.{pass_start, pass_next}
use Rattle.table.proofs.Rows.{pushed_holds, pushed_two}
use Rattle.lists.proofs.Tables.{holds_none, length_snoc}
use Rattle.sheet.specs.declared.Wire.{Wire}
use Rattle.sheet.specs.Drawings.{zero_wire}
use Rattle.table.proofs.Passing.{pass_whole, pass_all}
use Rattle.wires.proofs.Cases.{split_inside, split_outside}
use Rattle.wires.proofs.split.split_at.Goals as goal
use Rattle.wires.proofs.split.split_at.Goals.{then-inside+in_ok-try_push+in_ok-try_push-2, else-inside+in_ok-try_push-3}

pub loop-w-init : goal.loop-w-init
loop-w-init c = pass_start _ _ (holds_none 512 zero_wire)

pub returns-in_err-try_push : goal.returns-in_err-try_push
unfolding split_at
returns-in_err-try_push c =
    let s = c.loop-w.invariant.so_far.count_is in
    let more = pass_whole _ c.loop-w.invariant (split_inside _ _ (sym c.inside.ensures ∙ c.if-inside.true)) c.loop-w-test.true in
    MatchResult-from_err _ _ _ c.from_residual.ensures.0 (λ _. omega (arith, c.in_err-try_push.ensures.0))

pub returns-in_err-try_push-2 : goal.returns-in_err-try_push-2
unfolding split_at
returns-in_err-try_push-2 c =
    let s = pushed_holds _ c.loop-w.invariant.so_far c.in_ok-try_push.ensures.0 c.in_ok-try_push.ensures.1 in
    let more = pass_whole _ c.loop-w.invariant (split_inside _ _ (sym c.inside.ensures ∙ c.if-inside.true)) c.loop-w-test.true in
    MatchResult-from_err _ _ _ c.from_residual-in_err-try_push-2.ensures.0 (λ _. omega (arith, s.count_is, length_snoc {A = Wire}, c.in_err-try_push-2.ensures.0))

pub returns-in_err-try_push-3 : goal.returns-in_err-try_push-3
unfolding split_at
returns-in_err-try_push-3 c =
    let s = c.loop-w.invariant.so_far.count_is in
    let more = pass_whole _ c.loop-w.invariant (split_outside _ _ (sym c.inside.ensures ∙ c.if-inside.false)) c.loop-w-test.true in
    MatchResult-from_err _ _ _ c.from_residual-in_err-try_push-3.ensures.0 (λ _. omega (arith, c.in_err-try_push-3.ensures.0))

pub loop-w-preserved : goal.loop-w-preserved
loop-w-preserved c =
    let s = c.loop-w.invariant in
    elim c.if-inside.branch [
      | then-inside+in_ok-try_push+in_ok-try_push-2 w ↦
          let e = split_inside _ _ (sym c.inside.ensures ∙ w.if-inside.true) in
          rw w.out-is (pass_next _ s e (pushed_two s.so_far w.left.ensures w.right.ensures w.in_ok-try_push.ensures w.in_ok-try_push-2.ensures) c.loop-w-test.true)
      | else-inside+in_ok-try_push-3 w ↦
          let e = split_outside _ _ (sym c.inside.ensures ∙ w.if-inside.false) in
          rw w.out-is (pass_next _ s e (pushed_holds _ s.so_far w.in_ok-try_push-3.ensures.0 w.in_ok-try_push-3.ensures.1) c.loop-w-test.true)
    ]

pub returns : goal.returns
unfolding split_at
returns c = pass_all c.loop-w.invariant c.loop-w-test.false
