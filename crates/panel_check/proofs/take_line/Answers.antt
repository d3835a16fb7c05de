-- `take_line` meets its contract: behind an unreadable line, at a line `.`, and at a line of the drawing.
use Rattle.panel_check.proofs.Standing.{stays, ends, grows}
use Rattle.panel_check.proofs.take_line.Goals as goal

pub returns-then-r : goal.returns-then-r
returns-then-r g c = stays c.requires.waiting c.if-r.true

pub returns-then-is_end : goal.returns-then-is_end
returns-then-is_end g c = ends c.if-r.false c.next_number-lines.ensures c.read_line-said.ensures c.is_end.ensures c.if-is_end.true c.answer-w.ensures c.empty-fresh.ensures

pub returns-in_default : goal.returns-in_default
returns-in_default g c = grows c.if-r.false c.next_number-lines.ensures c.read_line-said.ensures c.is_end.ensures c.requires.waiting c.if-is_end.false c.in_default.ensures

pub returns : goal.returns
returns g c = grows c.if-r.false c.next_number-lines.ensures c.read_line-said.ensures c.is_end.ensures c.requires.waiting c.if-is_end.false c.in-Some.ensures
