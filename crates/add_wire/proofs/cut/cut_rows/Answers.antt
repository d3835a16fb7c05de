-- A pass; with no room for the next row's parts there is none for all.
use Rattle.std.proofs.Common.{arith, sym, ap, ◌∙◌}
use Rattle.std.proofs.lemmas.Result.{MatchResult-from_err}
use Rattle.lists.proofs.Passes.{pass_start, pass_next}
use Rattle.sheet.specs.Tables.{Wires}
use Rattle.table.proofs.Rows.{pushed_holds, pushed_two}
use Rattle.table.proofs.Passing.{pass_whole, pass_all}
use Rattle.add_wire.proofs.Crossed.{across_cut, across_whole}
use Rattle.add_wire.proofs.Adding.{adds_none, adds_next, adds_over}
use Rattle.add_wire.proofs.cut.cut_rows.Goals as goal
use Rattle.add_wire.proofs.cut.cut_rows.Goals.{then-is_crossed+in_ok-try_push+in_ok-try_push-2, else-is_crossed+in_ok-try_push-3}

pub loop-w-init : goal.loop-w-init
loop-w-init c = pass_start _ _ (adds_none _)

pub returns-in_err-try_push : goal.returns-in_err-try_push
returns-in_err-try_push c =
    let e = across_cut _ _ _ (sym c.is_crossed.ensures ∙ c.if-is_crossed.true) in
    MatchResult-from_err _ _ _ c.from_residual.ensures.0 (λ _. adds_over 2 c.loop-w.invariant.so_far (omega (arith, c.in_err-try_push.ensures.0)) (pass_whole _ c.loop-w.invariant e c.loop-w-test.true))

pub returns-in_err-try_push-2 : goal.returns-in_err-try_push-2
returns-in_err-try_push-2 c =
    let e = across_cut _ _ _ (sym c.is_crossed.ensures ∙ c.if-is_crossed.true) in
    MatchResult-from_err _ _ _ c.from_residual-in_err-try_push-2.ensures.0 (λ _. adds_over 2 c.loop-w.invariant.so_far (omega (arith, ap (λ (t : Wires). t.count) c.in_ok-try_push.ensures.1, c.in_err-try_push-2.ensures.0)) (pass_whole _ c.loop-w.invariant e c.loop-w-test.true))

pub returns-in_err-try_push-3 : goal.returns-in_err-try_push-3
returns-in_err-try_push-3 c =
    let e = across_whole _ _ _ (sym c.is_crossed.ensures ∙ c.if-is_crossed.false) in
    MatchResult-from_err _ _ _ c.from_residual-in_err-try_push-3.ensures.0 (λ _. adds_over 1 c.loop-w.invariant.so_far (omega (arith, c.in_err-try_push-3.ensures.0)) (pass_whole _ c.loop-w.invariant e c.loop-w-test.true))

pub loop-w-preserved : goal.loop-w-preserved
loop-w-preserved c =
    let s = c.loop-w.invariant in
    elim c.if-is_crossed.branch [
      | then-is_crossed+in_ok-try_push+in_ok-try_push-2 w ↦
          let e = across_cut _ _ _ (sym c.is_crossed.ensures ∙ w.if-is_crossed.true) in
          rw w.out-is (pass_next _ s e (adds_next s.so_far (λ xs h. pushed_two h (rw w.point_of-p.ensures at w.left.ensures) (rw w.point_of-p.ensures at w.right.ensures) w.in_ok-try_push.ensures w.in_ok-try_push-2.ensures)) c.loop-w-test.true)
      | else-is_crossed+in_ok-try_push-3 w ↦
          let e = across_whole _ _ _ (sym c.is_crossed.ensures ∙ w.if-is_crossed.false) in
          rw w.out-is (pass_next _ s e (adds_next s.so_far (λ xs h. pushed_holds _ h w.in_ok-try_push-3.ensures.0 w.in_ok-try_push-3.ensures.1)) c.loop-w-test.true)
    ]

pub returns : goal.returns
returns c = pass_all c.loop-w.invariant c.loop-w-test.false
