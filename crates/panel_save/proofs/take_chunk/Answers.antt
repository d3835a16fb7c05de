-- `take_chunk` meets its contract: at each turn, what is left to run is the whole run.
use Rattle.std.proofs.Common.{rules, arith, refl}
use Rattle.lines.proofs.Running.{start, at_end, on_line, on_more, line_there, line_less}
use Rattle.panel_save.proofs.take_chunk.Goals as goal

pub loop-at-init : goal.loop-at-init
loop-at-init g c = (start _ _ _ _ _ c.requires.few, c.requires.lawful, refl)

pub next_line-requires : goal.next_line-requires
next_line-requires g c =
    let r = c.loop-at.invariant.0 in
    record { in_bounds = omega (arith, r.long, c.requires.long); at_in_bounds = r.inside; count_bound = r.few }

pub slice_bounds-save_line-end : goal.slice_bounds-save_line-end
slice_bounds-save_line-end g c = line_there _ _ _ _ _ c.loop-at.invariant.0 c.next_line.ensures c.in-Line.is c.requires.long

pub loop-at-smaller : goal.loop-at-smaller
loop-at-smaller g c = line_less _ _ _ _ _ c.loop-at.invariant.0 c.next_line.ensures c.in-Line.is

pub loop-at-preserved : goal.loop-at-preserved
loop-at-preserved g c =
    (on_line _ _ _ _ _ c.loop-at.invariant.0 c.next_line.ensures c.in-Line.is c.save_line-state.ensures.is, c.save_line-state.ensures.lawful, search rules)

pub returns-in-More : goal.returns-in-More
returns-in-More g c =
    let r = on_more _ _ _ _ _ c.loop-at.invariant.0 c.next_line.ensures c.in-More.is in
    record { whole = r.whole; lawful = c.loop-at.invariant.1; few = r.few }

pub returns : goal.returns
returns g c =
    let r = at_end _ _ _ _ _ c.loop-at.invariant.0 c.loop-at-test.false in
    record { whole = r.whole; lawful = c.loop-at.invariant.1; few = r.few }
