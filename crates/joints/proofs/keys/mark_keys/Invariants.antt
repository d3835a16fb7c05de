-- A pass: the table holds the keys of all wire ends and of the pads passed.
use Rattle.std.proofs.Common.{◌≤◌, ◌+◌, ◌++◌, take}
use Rattle.sheet.specs.Geometry.{ends}
use Rattle.joints.specs.Keys.{Keyed}
use Rattle.joints.proofs.keys.mark_keys.Given as goal

abbrev pub invariant-loop-p : goal.invariant-loop-p
invariant-loop-p l = (l.out.count ≤ 1024 + l.p-index) × Keyed (ends l.ws ++ take l.p-index l.pads) l.out
