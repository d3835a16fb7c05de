-- `put_direction` meets its contract: the number of wires and the wires.
use native.Mathlib.Omega.{arith}
use mathlib.Core.Path.{ap}
use lib.ListN.{length}
use mathlib.Core.Bool.{beq}
use Rattle.std.proofs.lemmas.List.Sums.{length-filter, count_by-le-length}
use Rattle.sheet.specs.declared.Wire.{Wire}
use Rattle.text.proofs.Puts.{put_then, put_as}
use Rattle.groups.specs.Groups.{groups_of}
use Rattle.saved.specs.File.{wire_bytes, directed}
use Rattle.saved.proofs.Lengths.{length_listed}
use Rattle.save.proofs.put_direction.Goals as goal

pub overflow_cast-n : goal.overflow_cast-n
overflow_cast-n c = let of_it = λ (w : Wire). beq w.vertical c.args.vertical in omega (arith, c.requires.few, c.count_wires-n.ensures, length-filter of_it c.args.ws.now, count_by-le-length of_it c.args.ws.now)

pub put_number-p-requires : goal.put_number-p-requires
put_number-p-requires c = omega (arith, c.requires.room, length_listed wire_bytes (directed c.args.vertical c.args.ws.now), ap (λ n. length (groups_of n)) c.count_wires-n.ensures)

pub put_wires-requires : goal.put_wires-requires
put_wires-requires c = omega (arith, c.requires.room, length_listed wire_bytes (directed c.args.vertical c.args.ws.now), ap (λ n. length (groups_of n)) c.count_wires-n.ensures, c.put_number-p.ensures.behind)

pub returns : goal.returns
returns c = put_then (put_as (ap groups_of c.count_wires-n.ensures) c.put_number-p.ensures) c.put_wires.ensures
