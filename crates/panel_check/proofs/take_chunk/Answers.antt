-- `take_chunk` meets its contract: at each turn, what is left to run is the whole run.
use Rattle.std.proofs.Common.{rules, arith, refl, []}
use Rattle.lines.proofs.Running.{line_there, line_less}
use Rattle.panel_check.proofs.Going.{start, broken, at_end, on_line, on_more}
use Rattle.panel_check.proofs.take_chunk.Goals as goal

pub loop-at-init : goal.loop-at-init
loop-at-init g c = (start _ _ _ _ _ c.requires.waiting c.requires.few, refl)

pub next_line-requires : goal.next_line-requires
next_line-requires g c =
    let r = c.loop-at.invariant.0.running [] in
    record { in_bounds = omega (arith, r.long, c.requires.long); at_in_bounds = r.inside; count_bound = r.few }

pub slice_bounds-take_line-end : goal.slice_bounds-take_line-end
slice_bounds-take_line-end g c = line_there _ _ _ _ _ (c.loop-at.invariant.0.running []) c.next_line.ensures c.in-Line.is c.requires.long

pub returns-then-r : goal.returns-then-r
returns-then-r g c = broken _ _ _ _ _ _ c.take_line-r.ensures c.if-r.true

pub loop-at-smaller : goal.loop-at-smaller
loop-at-smaller g c = line_less _ _ _ _ _ (c.loop-at.invariant.0.running []) c.next_line.ensures c.in-Line.is

pub loop-at-preserved : goal.loop-at-preserved
loop-at-preserved g c =
    (on_line _ _ _ _ _ c.loop-at.invariant.0 c.next_line.ensures c.in-Line.is c.take_line-r.ensures, search rules)

pub returns-in-More : goal.returns-in-More
returns-in-More g c = on_more _ _ _ _ _ c.loop-at.invariant.0 c.next_line.ensures c.in-More.is

pub returns : goal.returns
returns g c = at_end _ _ _ _ _ c.loop-at.invariant.0 c.loop-at-test.false
