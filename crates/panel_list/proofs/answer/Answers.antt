-- `panel_list::answer` meets its contract: part by part, what is left of the chunk is the whole, and what was printed is handed over.
use Rattle.std.proofs.Common.{rules, arith, refl, true, false}
use Rattle.panel_list.proofs.Chunked.{start, at_end, reached, on, less}
use Rattle.panel_list.proofs.answer.Goals as goal

pub loop-at-init : goal.loop-at-init
loop-at-init g c = (start _ _ _ _ _ c.requires.lawful c.requires.few, refl, refl)

pub overflow_add-at : goal.overflow_add-at
overflow_add-at g c = omega (arith, reached c.args.chunk.now _ _ _ _ c.loop-at.invariant.0 c.take_lines-t.ensures, c.well_formed)

pub slice_bounds-write_block-end : goal.slice_bounds-write_block-end
slice_bounds-write_block-end g c = omega (arith, c.take_lines-t.ensures.fits)

pub returns-then-o : goal.returns-then-o
returns-then-o g c =
    at_end _ _ _ _ _ (on _ _ _ _ _ c.loop-at.invariant.0 c.take_lines-t.ensures c.write_block-o.ensures.sum) true (λ e. cc)

pub loop-at-smaller : goal.loop-at-smaller
loop-at-smaller g c = less _ _ _ _ _ c.loop-at.invariant.0 c.take_lines-t.ensures c.loop-at-test.true

pub loop-at-preserved : goal.loop-at-preserved
loop-at-preserved g c =
    let i = c.loop-at.invariant in
    (on _ _ _ _ _ i.0 c.take_lines-t.ensures c.write_block-o.ensures.sum, search rules, search rules)

pub returns : goal.returns
returns g c = at_end _ _ _ _ _ c.loop-at.invariant.0 false (λ e. c.loop-at-test.false)
