-- `panel_list::read_lines` meets its contract: the run is that of the chunks read so far, and goes on while nothing fails.
use Rattle.std.proofs.Common.{rules, arith, refl}
use Rattle.panel_list.proofs.Reading.{none, more, stopped}
use Rattle.panel_list.proofs.read_lines.Goals as goal

pub loop-init : goal.loop-init
loop-init g c = (none _ c.empty_drawing-d.ensures.0 c.empty_drawing-d.ensures.1, refl, refl, refl, refl)

pub answer-run-requires : goal.answer-run-requires
answer-run-requires g c =
    let i = c.loop.invariant in
    record { lawful = i.0.lawful; long = omega arith; few = i.0.few; room = omega arith }

pub returns-then-run : goal.returns-then-run
returns-then-run g c =
    let i = c.loop.invariant in
    more i.0 i.1 c.answer-run.ensures

pub loop-preserved : goal.loop-preserved
loop-preserved g c =
    let i = c.loop.invariant in
    (more i.0 i.1 c.answer-run.ensures, search rules, search rules, search rules, search rules)

pub returns-in-Failed : goal.returns-in-Failed
returns-in-Failed g c = stopped c.loop.invariant.0 c.failed.ensures
