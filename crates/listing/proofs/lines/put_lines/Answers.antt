-- `listing::put_lines` meets its contract: what is left to put are the lines of the components from the index on.
use native.Mathlib.Omega.{arith}
use mathlib.Core.List.{[]}
use Rattle.sheet.specs.declared.Component.{Component}
use Rattle.text.proofs.Puts.{todo_step, todo_done}
use Rattle.listing.specs.Listing.{nth}
use Rattle.listing.proofs.Rows.{lines_step, lines_part, lines_end}
use Rattle.listing.proofs.lines.put_lines.Goals as goal

pub put_part-next-requires : goal.put_part-next-requires
put_part-next-requires c =
    let l = c.loop-c in
    let d : Component = record { kind = 0; orientation = 0; x = 0; y = 0; label = [] } in
    omega (arith, l.invariant.todo.behind, c.requires.room, lines_part c.args.cs.now (nth c.args.numbers) c.args.kind l.pad l.c-index d c.loop-c-test.true)

pub loop-c-preserved : goal.loop-c-preserved
loop-c-preserved c =
    let l = c.loop-c in
    record {
      pads = omega (arith, c.pads_of_kind-pad.ensures.1);
      todo = todo_step l.invariant.todo (lines_step c.args.cs.now (nth c.args.numbers) c.args.kind l.pad l.c-index _ c.loop-c-test.true c.pads_of_kind-pad.ensures.0) c.put_part-next.ensures;
    }

pub returns : goal.returns
returns c = let l = c.loop-c in todo_done l.invariant.todo (lines_end c.args.cs.now (nth c.args.numbers) c.args.kind l.pad l.c-index (omega arith))
