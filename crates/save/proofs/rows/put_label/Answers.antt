-- `put_label` meets its contract: the length and the bytes.
use native.Mathlib.Omega.{arith}
use Rattle.text.proofs.Puts.{put_then}
use Rattle.saved.specs.File.{label_bytes}
use Rattle.saved.proofs.Lengths.{length_label}
use Rattle.save.proofs.rows.put_label.Goals as goal

pub overflow_cast-label : goal.overflow_cast-label
overflow_cast-label c = omega (arith, c.requires, length_label c.args.label.now)

pub put_number-p-requires : goal.put_number-p-requires
put_number-p-requires c = omega (arith, c.requires, length_label c.args.label.now)

pub put_bytes-requires : goal.put_bytes-requires
put_bytes-requires c = omega (arith, c.requires, length_label c.args.label.now, c.put_number-p.ensures.behind)

pub returns : goal.returns
unfolding label_bytes
returns c = put_then c.put_number-p.ensures c.put_bytes.ensures
