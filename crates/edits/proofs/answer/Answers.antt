-- The word on the wires decides.
use Rattle.std.proofs.Common.{rules, arith, ap, subst, sym, ◌≡◌}
use Rattle.std.specs.Prelude.{Result, Ok, Err}
use Rattle.sheet.specs.Tables.{Wires}
use Rattle.table.specs.declared.NoRoom.{NoRoom}
use Rattle.wires.specs.Tables.{Grows}
use Rattle.edits.proofs.Making.{full_wires, answer_room}
use Rattle.edits.proofs.answer.Goals as goal

pub returns-in-Ok : goal.returns-in-Ok
returns-in-Ok c = λ o w p h l. answer_room o (subst (λ (g : Result Wires NoRoom). Grows o.sheet.wires g) c.in-Ok.is w) p h l

pub returns-in-Err : goal.returns-in-Err
returns-in-Err c = λ o w p h l. full_wires o (subst (λ (g : Result Wires NoRoom). Grows o.sheet.wires g) c.in-Err.is w) (omega (arith, p.room))
