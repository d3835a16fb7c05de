-- With zero length the wires are as they were; else they are those of the wire edit.
use Rattle.std.proofs.Common.{refl, ap, ◌∙◌}
use Rattle.sheet.specs.Parts.{pads_of}
use Rattle.edits.proofs.Steps.{idle_wires, drawn_wires, same_parts}
use Rattle.edits.proofs.draw.draw.Goals as goal

pub returns-then-n : goal.returns-then-n
returns-then-n c = c.answer.ensures _ (idle_wires c.args.n c.requires.0 c.if-n.true) (same_parts c.args.n c.requires.0) refl refl

pub returns : goal.returns
returns c = c.answer-2.ensures _ (drawn_wires c.args.n c.requires.0 c.if-n.false c.add_wire-g.result c.in_use-2.ensures c.in_use-3.ensures (c.all_pads-pads.ensures.points_are ∙ ap pads_of c.in_use.ensures) c.add_wire-g.ensures) (same_parts c.args.n c.requires.0) refl refl
