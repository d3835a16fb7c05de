-- `listing::put_part` meets its contract: two lines of a contact, one of a coil, or none.
use mathlib.Core.Path.{ap}
use native.Mathlib.Omega.{arith}
use lib.ListN.{length, length-append}
use Rattle.text.proofs.Puts.{put_then, put_as, put_none}
use Rattle.listing.specs.Listing.{switch, entry}
use Rattle.listing.proofs.Rows.{contact_lines, coil_lines, other_lines, no_lines}
use Rattle.listing.proofs.lines.put_part.Goals as goal

pub returns-then-c-kind : goal.returns-then-c-kind
returns-then-c-kind c = put_none _ _ (other_lines (entry c.args.c) c.args.n c.args.a c.args.b c.if-c-kind.true)

pub put_switch-p-requires : goal.put_switch-p-requires
put_switch-p-requires c = omega (arith, c.requires, ap length (contact_lines (entry c.args.c) c.args.n c.args.a c.args.b c.label_part-label.ensures c.if-c-kind.false c.if-kind-eq1.true), length-append (switch c.label_part-label.result.now 65 c.args.n c.args.a) (switch c.label_part-label.result.now 66 c.args.n c.args.b))

pub put_switch-requires : goal.put_switch-requires
put_switch-requires c = omega (arith, c.requires, ap length (contact_lines (entry c.args.c) c.args.n c.args.a c.args.b c.label_part-label.ensures c.if-c-kind.false c.if-kind-eq1.true), length-append (switch c.label_part-label.result.now 65 c.args.n c.args.a) (switch c.label_part-label.result.now 66 c.args.n c.args.b), c.put_switch-p.ensures.behind)

pub returns-then-kind-eq1 : goal.returns-then-kind-eq1
returns-then-kind-eq1 c = put_as (contact_lines (entry c.args.c) c.args.n c.args.a c.args.b c.label_part-label.ensures c.if-c-kind.false c.if-kind-eq1.true) (put_then c.put_switch-p.ensures c.put_switch.ensures)

pub put_relay-requires : goal.put_relay-requires
put_relay-requires c = omega (arith, c.requires, ap length (coil_lines (entry c.args.c) c.args.n c.args.a c.args.b c.label_part-label.ensures c.if-c-kind.false c.if-kind-eq2.true))

pub returns-then-kind-eq2 : goal.returns-then-kind-eq2
returns-then-kind-eq2 c = put_as (coil_lines (entry c.args.c) c.args.n c.args.a c.args.b c.label_part-label.ensures c.if-c-kind.false c.if-kind-eq2.true) c.put_relay.ensures

pub returns : goal.returns
returns c = put_none _ _ (no_lines (entry c.args.c) c.args.n c.args.a c.args.b c.if-c-kind.false c.if-kind-eq1.false c.if-kind-eq2.false)
