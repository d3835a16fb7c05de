-- `put_component` meets its contract: four numbers and a label.
use native.Mathlib.Omega.{arith}
use mathlib.Core.Path.{ap}
use lib.ListN.{length}
use Rattle.text.proofs.Puts.{put_then, put_as}
use Rattle.saved.specs.File.{label_bytes, part_bytes}
use Rattle.saved.proofs.Lengths.{length_part}
use Rattle.save.proofs.rows.put_component.Goals as goal

pub put_number-p-requires : goal.put_number-p-requires
put_number-p-requires c = omega (arith, c.requires, length_part c.args.c)

pub put_number-p-requires-2 : goal.put_number-p-requires-2
put_number-p-requires-2 c = omega (arith, c.requires, length_part c.args.c, c.put_number-p.ensures.behind)

pub put_number-p-requires-3 : goal.put_number-p-requires-3
put_number-p-requires-3 c = omega (arith, c.requires, length_part c.args.c, c.put_number-p.ensures.behind, c.put_number-p-2.ensures.behind)

pub put_number-p-requires-4 : goal.put_number-p-requires-4
put_number-p-requires-4 c = omega (arith, c.requires, length_part c.args.c, c.put_number-p.ensures.behind, c.put_number-p-2.ensures.behind, c.put_number-p-3.ensures.behind)

pub put_label-requires : goal.put_label-requires
put_label-requires c = omega (arith, c.requires, length_part c.args.c, c.put_number-p.ensures.behind, c.put_number-p-2.ensures.behind, c.put_number-p-3.ensures.behind, c.put_number-p-4.ensures.behind, ap (λ l. length (label_bytes l)) c.label_part-label.ensures)

pub returns : goal.returns
unfolding part_bytes
returns c =
    let label = put_as (ap label_bytes c.label_part-label.ensures) c.put_label.ensures in
    put_then c.put_number-p.ensures (put_then c.put_number-p-2.ensures (put_then c.put_number-p-3.ensures (put_then c.put_number-p-4.ensures label)))
