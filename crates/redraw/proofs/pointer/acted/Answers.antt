-- By the act.
use mathlib.Core.Path.{sym, ap, ◌∙◌}
use Rattle.joints.specs.Tables.{sheet_of}
use Rattle.edits.specs.Making.{made}
use Rattle.redraw.specs.declared.pointer.Act.{Act}
use Rattle.redraw.specs.Acts.{acted}
use Rattle.redraw.proofs.pointer.acted.Goals as goal

pub returns-in-Delete : goal.returns-in-Delete
returns-in-Delete c = let s = c.args in c.delete.ensures ∙ sym (ap (λ (a : Act). made (acted a s.p s.size (sheet_of s.ws s.cs))) c.in-Delete.is)

pub returns-in-TurnRight : goal.returns-in-TurnRight
returns-in-TurnRight c = let s = c.args in c.turn_right.ensures ∙ sym (ap (λ (a : Act). made (acted a s.p s.size (sheet_of s.ws s.cs))) c.in-TurnRight.is)

pub returns-in-Mirror : goal.returns-in-Mirror
returns-in-Mirror c = let s = c.args in c.mirror.ensures ∙ sym (ap (λ (a : Act). made (acted a s.p s.size (sheet_of s.ws s.cs))) c.in-Mirror.is)
