-- `take_lines` meets its contract: at each turn, what is left to run is the whole run.
use Rattle.std.proofs.Common.{rules, arith, refl}
use Rattle.lines.proofs.Running.{line_there, line_less}
use Rattle.panel_list.proofs.Going.{start, full, at_end, on_line, on_more}
use Rattle.panel_list.proofs.answers.take_lines.Goals as goal

pub loop-at-init : goal.loop-at-init
loop-at-init c = (start _ _ _ _ _ c.requires.lawful c.requires.few, refl)

pub returns-then-out-used-lt8192 : goal.returns-then-out-used-lt8192
returns-then-out-used-lt8192 c =
    let i = c.loop-at.invariant in
    full _ _ _ _ i.0 (omega (arith, c.if-out-used-lt8192.true, i.0.fits)) (omega (arith, i.1, c.requires.room))

pub slice_bounds-print-end : goal.slice_bounds-print-end
slice_bounds-print-end c = line_there _ _ _ _ _ c.loop-at.invariant.0.running c.next_line.ensures c.in-Line.is c.requires.long

pub loop-at-smaller-in-Line : goal.loop-at-smaller-in-Line
loop-at-smaller-in-Line c = line_less _ _ _ _ _ c.loop-at.invariant.0.running c.next_line.ensures c.in-Line.is

pub loop-at-preserved-in-Line : goal.loop-at-preserved-in-Line
loop-at-preserved-in-Line c =
    (on_line _ _ _ _ c.loop-at.invariant.0 c.next_line.ensures c.in-Line.is c.print-s.ensures, search rules)

pub loop-at-preserved : goal.loop-at-preserved
loop-at-preserved c =
    (on_more _ _ _ _ c.loop-at.invariant.0 c.next_line.ensures c.in-More.is c.loop-at-test.true, search rules)

pub returns : goal.returns
returns c = at_end _ _ _ _ c.loop-at.invariant.0 c.loop-at-test.false
