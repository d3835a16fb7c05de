-- `listing::put_net` meets its contract: three runs of bytes, one behind the other.
use native.Mathlib.Omega.{arith}
use Rattle.text.proofs.Puts.{put_then}
use Rattle.listing.specs.Listing.{net_word}
use Rattle.listing.proofs.Spelling.{length_net}
use Rattle.listing.proofs.lines.put_net.Goals as goal

pub put_byte-p-requires : goal.put_byte-p-requires
put_byte-p-requires c = omega (arith, c.requires, length_net c.args.net)

pub put_byte-p-requires-2 : goal.put_byte-p-requires-2
put_byte-p-requires-2 c = omega (arith, c.requires, length_net c.args.net, c.put_byte-p.ensures.behind)

pub put_decimal-requires : goal.put_decimal-requires
put_decimal-requires c = omega (arith, c.requires, length_net c.args.net, c.put_byte-p.ensures.behind, c.put_byte-p-2.ensures.behind)

pub returns : goal.returns
unfolding net_word
returns c = put_then c.put_byte-p.ensures (put_then c.put_byte-p-2.ensures c.put_decimal.ensures)
