-- `dump::put_label` meets its contract: a space and the bytes before the first zero.
use mathlib.Core.Path.{◌≡◌, ap}
use Prim.Native.Nat.{◌≤◌}
use native.Mathlib.Omega.{arith}
use lib.ListN.{length}
use Rattle.lists.proofs.Tables.{long}
use Rattle.label.specs.Labels.{label_part}
use Rattle.text.proofs.Puts.{put_as}
use Rattle.dump.proofs.Runs.{puts_byte, puts_then, puts_short}
use Rattle.dump.specs.Rows.{label_word}
use Rattle.label.proofs.Labels.{label_short}
use Rattle.dump.proofs.rows.put_label.Goals as goal

pub put_bytes-requires : goal.put_bytes-requires
put_bytes-requires c =
    let a = c in
    let size : length a.args.bytes ≡ 16 = search long in
    omega (arith, ap length c.label_part-label.ensures, label_short a.args.bytes)

pub returns : goal.returns
unfolding label_word
returns c =
    let a = c in
    let size : length a.args.bytes ≡ 16 = search long in
    let short : length (label_part a.args.bytes) ≤ 16 = omega (arith, label_short a.args.bytes) in
    puts_then (puts_byte c.put_byte-p.ensures) (puts_short short (put_as c.label_part-label.ensures c.put_bytes.ensures))
