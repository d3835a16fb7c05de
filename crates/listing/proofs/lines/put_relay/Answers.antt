-- `listing::put_relay` meets its contract: five runs of bytes, one behind the other.
use native.Mathlib.Omega.{arith}
use Rattle.text.proofs.Puts.{put_then}
use Rattle.listing.specs.Listing.{relay}
use Rattle.listing.proofs.Spelling.{length_relay}
use Rattle.listing.proofs.lines.put_relay.Goals as goal

pub put_byte-p-requires : goal.put_byte-p-requires
put_byte-p-requires c = omega (arith, c.requires, length_relay c.args.label.now c.args.net)

pub put_net-p-requires : goal.put_net-p-requires
put_net-p-requires c = omega (arith, c.requires, length_relay c.args.label.now c.args.net, c.put_byte-p.ensures.behind)

pub put_pin-p-requires : goal.put_pin-p-requires
put_pin-p-requires c = omega (arith, c.requires, length_relay c.args.label.now c.args.net, c.put_byte-p.ensures.behind, c.put_net-p.ensures.behind)

pub put_pin-p-requires-2 : goal.put_pin-p-requires-2
put_pin-p-requires-2 c = omega (arith, c.requires, length_relay c.args.label.now c.args.net, c.put_byte-p.ensures.behind, c.put_net-p.ensures.behind, c.put_pin-p.ensures.behind)

pub put_byte-requires : goal.put_byte-requires
put_byte-requires c = omega (arith, c.requires, length_relay c.args.label.now c.args.net, c.put_byte-p.ensures.behind, c.put_net-p.ensures.behind, c.put_pin-p.ensures.behind, c.put_pin-p-2.ensures.behind)

pub returns : goal.returns
unfolding relay
returns c = put_then c.put_byte-p.ensures (put_then c.put_net-p.ensures (put_then c.put_pin-p.ensures (put_then c.put_pin-p-2.ensures c.put_byte.ensures)))
