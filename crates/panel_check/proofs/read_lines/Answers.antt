-- `read_lines` meets its contract: the run and the bytes held are those of the chunks read so far, and it goes on while nothing fails.
use Rattle.std.proofs.Common.{rules, arith, refl}
use Rattle.panel_check.proofs.Reading.{nothing, more}
use Rattle.panel_check.proofs.read_lines.Goals as goal

pub loop-init : goal.loop-init
loop-init g c = (nothing _ _ c.empty.ensures, refl, refl, refl, refl)

pub take_chunk-t-requires : goal.take_chunk-t-requires
take_chunk-t-requires g c =
    let i = c.loop.invariant in
    record { waiting = i.0.fits; long = omega arith; few = i.0.few; room = omega arith }

pub returns-then-r : goal.returns-then-r
returns-then-r g c =
    let i = c.loop.invariant in
    more i.0 i.1 c.take_chunk-t.ensures

pub loop-preserved : goal.loop-preserved
loop-preserved g c =
    let i = c.loop.invariant in
    (more i.0 i.1 c.take_chunk-t.ensures, search rules, search rules, search rules, search rules)
