-- `read_lines` meets its contract: the run is that of the chunks read so far.
use Rattle.std.proofs.Common.{rules, arith, refl}
use Rattle.panel_save.proofs.Reading.{none, more, stopped}
use Rattle.panel_save.proofs.read_lines.Goals as goal

pub loop-init : goal.loop-init
loop-init g c = (none _ c.empty_drawing-drawing.ensures.0 c.empty_drawing-drawing.ensures.1, refl, refl, refl)

pub take_chunk-run-requires : goal.take_chunk-run-requires
take_chunk-run-requires g c =
    let i = c.loop.invariant in
    record { lawful = i.0.lawful; long = omega arith; few = i.0.few; room = omega arith }

pub loop-preserved : goal.loop-preserved
loop-preserved g c =
    (more c.loop.invariant.0 c.take_chunk-run.ensures, search rules, search rules, search rules)

pub returns-in-Failed : goal.returns-in-Failed
returns-in-Failed g c = stopped c.loop.invariant.0 c.failed.ensures
