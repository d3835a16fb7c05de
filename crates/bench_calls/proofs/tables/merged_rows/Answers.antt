-- The rows of the wires merged.
use Rattle.std.proofs.Common.{arith, ap, ◌∙◌, length}
use lib.ListN.{length-take}
use Rattle.sheet.specs.Parts.{pads_of}
use Rattle.sheet.specs.Merge.{merge}
use Rattle.bench_calls.proofs.tables.merged_rows.Goals as goal

pub all_pads-pads-requires : goal.all_pads-pads-requires
all_pads-pads-requires c = let p = c.requires.1 in (rw c.in_use.ensures p.each, rw c.in_use.ensures (omega (arith, p.room, length-take c.args.cs.count c.args.cs.rows)))

pub merge-t-requires : goal.merge-t-requires
merge-t-requires c =
    let ps = c.all_pads-pads in
    (rw c.in_use-2.ensures (omega (arith, c.requires.0, length-take c.args.ws.count c.args.ws.rows)), rw c.in_use-3.ensures (omega (arith, ps.ensures.room, length-take ps.result.count ps.result.rows)))

pub returns : goal.returns
returns c =
    let ps = c.in_use-3.ensures ∙ c.all_pads-pads.ensures.points_are ∙ ap pads_of c.in_use.ensures in
    c.merge-t.ensures.count_is ∙ (λ i. length (merge (c.in_use-2.ensures i) (ps i)))
