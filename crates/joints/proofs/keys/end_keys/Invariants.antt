-- A pass: the table holds the keys of the ends of the wires passed, two for each.
use Rattle.std.proofs.Common.{◌≡◌, ◌*◌}
use Rattle.lists.proofs.Passes.{Pass}
use Rattle.sheet.specs.Geometry.{tips}
use Rattle.joints.specs.Keys.{Keyed}
use Rattle.joints.proofs.keys.end_keys.Given as goal

abbrev pub invariant-loop-w : goal.invariant-loop-w
invariant-loop-w l = (l.out.count ≡ 2 * l.w-index) × Pass Keyed tips l.ws l.w-index l.out
