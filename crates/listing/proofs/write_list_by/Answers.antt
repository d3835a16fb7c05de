-- `listing::write_list_by` meets its contract: the first run tells the length, whatever the buffer, and the second is made only where all fits.
use mathlib.Core.Path.{ap}
use native.Mathlib.Omega.{arith}
use lib.ListN.{length}
use Rattle.std.proofs.lemmas.List.{length-take}
use Rattle.sheet.specs.Drawings.{lists_of}
use Rattle.sheet.proofs.Owned.{owned}
use Rattle.text.proofs.Puts.{put_as}
use Rattle.text.proofs.Buffers.{answer_fits, answer_long, buffer_fits, buffer_long}
use Rattle.listing.proofs.Lengths.{list_room}
use Rattle.listing.proofs.Rows.{list_is}
use Rattle.listing.proofs.write_list_by.Goals as goal

pub put_list-n-requires : goal.put_list-n-requires
put_list-n-requires c =
    let is = list_is (lists_of c.args.d) c.in_use-cs.ensures c.requires.numbered in
    record { few = let d = c.args.d in omega (arith, c.requires.lawful.rule1.component_room, ap length c.in_use-cs.ensures, length-take d.components.count d.components.rows); room = omega (arith, list_room c.requires.lawful (owned c.args.d _ c.well_formed.0.1.1), ap length is) }

pub put_list-requires : goal.put_list-requires
put_list-requires c =
    let is = list_is (lists_of c.args.d) c.in_use-cs.ensures c.requires.numbered in
    record { few = let d = c.args.d in omega (arith, c.requires.lawful.rule1.component_room, ap length c.in_use-cs.ensures, length-take d.components.count d.components.rows); room = omega (arith, list_room c.requires.lawful (owned c.args.d _ c.well_formed.0.1.1), ap length is) }

pub returns-then-n-out : goal.returns-then-n-out
returns-then-n-out c =
    let is = list_is (lists_of c.args.d) c.in_use-cs.ensures c.requires.numbered in
    let first = put_as is c.put_list-n.ensures in
    let fits = c.if-n-out.true in
    record { told = answer_fits first (length c.args.out.now) fits; written = buffer_fits first (put_as is c.put_list.ensures) fits }

pub returns : goal.returns
returns c =
    let is = list_is (lists_of c.args.d) c.in_use-cs.ensures c.requires.numbered in
    let first = put_as is c.put_list-n.ensures in
    record { told = answer_long first (length c.args.out.now) c.if-n-out.false; written = buffer_long first c.args.out.now c.if-n-out.false }
