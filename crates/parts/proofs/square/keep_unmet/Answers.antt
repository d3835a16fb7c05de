-- The box of the square meets what the square meets.
use Rattle.std.proofs.Common.{rules, ◌≡◌, not, ◌&&◌}
use Rattle.symbol.specs.Symbols.{touches_of}
use Rattle.sheet.specs.Parts.{is_contact, box}
use Rattle.sheet.specs.Edits.{hits, meets_part}
use Rattle.parts.proofs.square.keep_unmet.Goals as goal

pub returns : goal.returns
unfolding hits meets_part
returns c = c.keep.ensures (λ d. not (meets_part c.args.p c.args.size d)) (λ d r m k. let t : r ≡ not (touches_of c.square-b.result (box d)) = search rules in rw c.square-b.ensures at t)
