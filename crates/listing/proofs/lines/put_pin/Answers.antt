-- `listing::put_pin` meets its contract: four runs of bytes, one behind the other.
use native.Mathlib.Omega.{arith}
use Rattle.text.proofs.Puts.{put_then}
use Rattle.listing.specs.Listing.{pin_word}
use Rattle.listing.proofs.Spelling.{length_pin}
use Rattle.listing.proofs.lines.put_pin.Goals as goal

pub put_byte-p-requires : goal.put_byte-p-requires
put_byte-p-requires c = omega (arith, c.requires, length_pin c.args.label.now c.args.pin)

pub put_bytes-p-requires : goal.put_bytes-p-requires
put_bytes-p-requires c = omega (arith, c.requires, length_pin c.args.label.now c.args.pin, c.put_byte-p.ensures.behind)

pub put_byte-p-requires-2 : goal.put_byte-p-requires-2
put_byte-p-requires-2 c = omega (arith, c.requires, length_pin c.args.label.now c.args.pin, c.put_byte-p.ensures.behind, c.put_bytes-p.ensures.behind)

pub put_byte-requires : goal.put_byte-requires
put_byte-requires c = omega (arith, c.requires, length_pin c.args.label.now c.args.pin, c.put_byte-p.ensures.behind, c.put_bytes-p.ensures.behind, c.put_byte-p-2.ensures.behind)

pub returns : goal.returns
unfolding pin_word
returns c = put_then c.put_byte-p.ensures (put_then c.put_bytes-p.ensures (put_then c.put_byte-p-2.ensures c.put_byte.ensures))
