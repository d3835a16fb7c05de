-- A pass from the front: what is out, the wire still growing and what the rows left make of it are the whole, whatever the pads.
use Rattle.std.proofs.Common.{◌≤◌, ◌<◌, List, length, take}
use Rattle.symbol.specs.declared.Point.{Point}
use Rattle.merge.specs.Codes.{Flagged}
use Rattle.merge.proofs.Merging.{Merging}
use Rattle.merge.proofs.merge.Given as goal

abbrev pub invariant-loop-i : goal.invariant-loop-i
invariant-loop-i l = (l.i ≤ length l.ws) × (l.out.count < l.i) × ((ps : List Point) → Flagged (take (length l.ws) l.ws) ps l.held → Merging l.ws (length l.ws) ps l.held l.i l.cur l.out)
