-- The rows of the wires with the new one.
use Rattle.std.proofs.Common.{arith, ap, ◌∙◌, List}
use lib.ListN.{length-take}
use Rattle.symbol.specs.declared.Point.{Point}
use Rattle.sheet.specs.Drawings.{wire_rows}
use Rattle.sheet.specs.Parts.{pads_of}
use Rattle.sheet.specs.Run.{lay_wire}
use Rattle.bench_calls.specs.Tables.{grown_rows}
use Rattle.bench_calls.proofs.Rowing.{grown_rows_lem, no_rows_lem}
use Rattle.bench_calls.proofs.tables.laid_rows.Goals as goal

pub all_pads-pads-requires : goal.all_pads-pads-requires
all_pads-pads-requires c = let p = c.requires.1.0 in (rw c.in_use.ensures p.each, rw c.in_use.ensures (omega (arith, p.room, length-take c.args.cs.count c.args.cs.rows)))

pub add_wire-requires : goal.add_wire-requires
add_wire-requires c = (rw c.in_use-2.ensures (omega (arith, c.requires.0, length-take c.args.ws.count c.args.ws.rows)), c.requires.1.1)

pub returns-in-Ok : goal.returns-in-Ok
returns-in-Ok c =
    let ps = c.in_use-3.ensures ∙ c.all_pads-pads.ensures.points_are ∙ ap pads_of c.in_use.ensures in
    grown_rows_lem c.in-Ok.ensures ∙ (λ i. grown_rows (lay_wire c.args.n (c.in_use-2.ensures i) (ps i)))

pub returns-in-Err : goal.returns-in-Err
returns-in-Err c =
    let ps = c.in_use-3.ensures ∙ c.all_pads-pads.ensures.points_are ∙ ap pads_of c.in_use.ensures in
    no_rows_lem _ c.in-Err.ensures ∙ (λ i. grown_rows (lay_wire c.args.n (c.in_use-2.ensures i) (ps i)))
