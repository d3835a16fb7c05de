-- `panel_rows::answer_chunk` meets its contract: at each turn, what is left to run is the whole run.
use Rattle.std.proofs.Common.{rules, arith, refl}
use Rattle.lines.proofs.Running.{start, at_end, on_line, on_more, line_there, line_less}
use Rattle.panel_rows.proofs.answer_chunk.Goals as goal

pub loop-at-init : goal.loop-at-init
loop-at-init g c = (start _ _ _ _ _ c.requires.few, c.requires.lawful, refl)

pub next_line-requires : goal.next_line-requires
next_line-requires g c =
    let r = c.loop-at.invariant.0 in
    record { in_bounds = omega (arith, r.long, c.requires.long); at_in_bounds = r.inside; count_bound = r.few }

pub slice_bounds-answer-end : goal.slice_bounds-answer-end
slice_bounds-answer-end g c = line_there _ _ _ _ _ c.loop-at.invariant.0 c.next_line.ensures c.in-Line.is c.requires.long

pub returns-then-not-a : goal.returns-then-not-a
returns-then-not-a g c = record { whole = λ e. cc; lawful = c.answer-a.ensures.1; few = omega arith }

pub loop-at-smaller : goal.loop-at-smaller
loop-at-smaller g c = line_less _ _ _ _ _ c.loop-at.invariant.0 c.next_line.ensures c.in-Line.is

pub loop-at-preserved : goal.loop-at-preserved
loop-at-preserved g c =
    (on_line _ _ _ _ _ c.loop-at.invariant.0 c.next_line.ensures c.in-Line.is c.answer-a.ensures.0, c.answer-a.ensures.1, search rules)

pub returns-in-More : goal.returns-in-More
returns-in-More g c =
    let r = on_more _ _ _ _ _ c.loop-at.invariant.0 c.next_line.ensures c.in-More.is in
    record { whole = λ _. r.whole; lawful = c.loop-at.invariant.1; few = r.few }

pub returns : goal.returns
returns g c =
    let r = at_end _ _ _ _ _ c.loop-at.invariant.0 c.loop-at-test.false in
    record { whole = λ _. r.whole; lawful = c.loop-at.invariant.1; few = r.few }
