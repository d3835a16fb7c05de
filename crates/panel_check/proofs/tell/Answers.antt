-- `tell` meets its contract: the unreadable line, a last answer, or the answers that wait.
use native.Mathlib.Omega.{arith}
use Rattle.panel_check.proofs.Ending.{unreadable, answered, idle}
use Rattle.panel_check.proofs.tell.Goals as goal

pub returns-then-r : goal.returns-then-r
returns-then-r g c = unreadable c.args.r c.args.out.now c.requires.room c.if-r.true c.put_unreadable-used.ensures

pub returns-then-r-2 : goal.returns-then-r-2
returns-then-r-2 g c = answered c.args.r c.args.out.now c.if-r.false (omega (arith, c.requires.waiting, c.requires.room)) c.if-r-2.true c.answer.ensures

pub returns : goal.returns
returns g c = idle c.args.r c.args.out.now c.if-r.false c.requires.waiting c.if-r-2.false
