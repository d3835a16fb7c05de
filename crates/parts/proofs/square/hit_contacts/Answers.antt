-- The box of the square meets what the square meets.
use Rattle.std.proofs.Common.{rules, ◌≡◌, not, ◌&&◌}
use Rattle.symbol.specs.Symbols.{touches_of}
use Rattle.sheet.specs.Parts.{is_contact, box}
use Rattle.sheet.specs.Edits.{hits, meets_part}
use Rattle.parts.proofs.square.hit_contacts.Goals as goal

pub returns : goal.returns
unfolding hits meets_part
returns c = c.keep.ensures (hits c.args.p c.args.size) (λ d r m k. let t : r ≡ (is_contact d && touches_of c.square-b.result (box d)) = search rules in rw c.square-b.ensures at t)
