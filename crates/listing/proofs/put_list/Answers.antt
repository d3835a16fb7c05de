-- `listing::put_list` meets its contract: the lines of the coils, then those of the contacts.
use mathlib.Core.List.{map}
use native.Mathlib.Omega.{arith}
use Rattle.text.proofs.Puts.{put_then}
use Rattle.listing.specs.Listing.{entry, nth, list_with}
use Rattle.listing.proofs.Lengths.{length_list}
use Rattle.listing.proofs.put_list.Goals as goal

pub put_lines-p-requires : goal.put_lines-p-requires
put_lines-p-requires c = record { few = c.requires.few; room = omega (arith, c.requires.room, length_list (nth c.args.numbers) (map entry c.args.cs.now)) }

pub put_lines-requires : goal.put_lines-requires
put_lines-requires c = record { few = c.requires.few; room = omega (arith, c.requires.room, length_list (nth c.args.numbers) (map entry c.args.cs.now), c.put_lines-p.ensures.behind) }

pub returns : goal.returns
unfolding list_with
returns c = put_then c.put_lines-p.ensures c.put_lines.ensures
