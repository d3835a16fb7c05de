-- To touch a component is to meet its box.
use Rattle.std.proofs.Common.{◌∙◌, ap, sym, not, arith}
use Rattle.symbol.specs.Symbols.{touches_of}
use Rattle.lists.proofs.Finding.{get_in}
use Rattle.lists.proofs.Walks.{span_start, span_next}
use Rattle.sheet.specs.Parts.{touches, box}
use Rattle.parts.proofs.Touching.{walk_found, walk_none}
use Rattle.parts.proofs.touch.first_touched.Goals as goal

pub loop-row-init : goal.loop-row-init
loop-row-init c = span_start _ _ _

pub meets-requires : goal.meets-requires
meets-requires c = c.requires.0 _ (get_in _ _ _ c.loop-row-test.true)

pub returns-then-meets : goal.returns-then-meets
unfolding touches
returns-then-meets c = walk_found _ _ c.loop-row.invariant _ (rw c.box_of-b.ensures at (sym c.meets.ensures ∙ c.if-meets.true)) c.loop-row-test.true

pub loop-row-preserved : goal.loop-row-preserved
unfolding touches
loop-row-preserved c = span_next _ c.loop-row.invariant (ap not (rw c.box_of-b.ensures at (sym c.meets.ensures ∙ c.if-meets.false))) c.loop-row-test.true (omega arith)

pub returns : goal.returns
returns c = walk_none _ _ c.loop-row.invariant c.loop-row-test.false
