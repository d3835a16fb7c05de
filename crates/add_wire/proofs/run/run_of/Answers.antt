-- A fold: the run reaches to the outermost ends of those of the rows passed that it meets.
use Rattle.std.proofs.Common.{arith, refl, sym, ap, ◌∙◌}
use lib.Seq.{take_all}
use Rattle.sheet.specs.Run.{run}
use Rattle.add_wire.proofs.Running.{run_yes, run_no}
use Rattle.add_wire.proofs.run.run_of.Goals as goal
use Rattle.add_wire.proofs.run.run_of.Goals.{then-meets, else-meets}

pub loop-w-init : goal.loop-w-init
unfolding run
loop-w-init c = refl

pub loop-w-preserved : goal.loop-w-preserved
loop-w-preserved c =
    elim c.if-meets.branch [
      | then-meets w ↦ rw (w.r-is, w.stretch-r.ensures) (run_yes _ _ _ c.loop-w.invariant (sym c.meets.ensures ∙ w.if-meets.true) c.loop-w-test.true)
      | else-meets w ↦ rw w.r-is (run_no _ _ _ c.loop-w.invariant (sym c.meets.ensures ∙ w.if-meets.false) c.loop-w-test.true)
    ]

pub returns : goal.returns
returns c = c.loop-w.invariant ∙ ap (run c.args.n) (take_all c.loop-w.w-index c.args.ws.now c.loop-w-test.false)
