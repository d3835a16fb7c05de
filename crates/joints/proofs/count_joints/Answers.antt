-- Sorting changes only the order of the keys, and joints do not depend on it.
use Rattle.std.proofs.Common.{arith, ap, sym, subst, map, List, ℕ, ◌≤◌, ◌∙◌}
use lib.ListN.{length-take}
use Rattle.lists.specs.Lists.{Rows}
use Rattle.sheet.specs.Joints.{joints_of}
use Rattle.sheet.specs.Drawings.{joint_table}
use Rattle.joints.specs.Keys.{spot}
use Rattle.joints.proofs.Keying.{marks_few, same_joints}
use Rattle.joints.proofs.count_joints.Goals as goal

pub sort-sorted-requires : goal.sort-sorted-requires
sort-sorted-requires c = marks_few c.args.ws.now c.args.pads.now c.mark_keys-ks.ensures (omega arith) (omega arith)

pub gathered-requires : goal.gathered-requires
gathered-requires c =
    let few = marks_few c.args.ws.now c.args.pads.now c.mark_keys-ks.ensures (omega arith) (omega arith) in
    (rw c.in_use.ensures (omega (arith, few, c.sort-sorted.ensures.0, length-take c.sort-sorted.result.count c.sort-sorted.result.rows)), subst (Rows ◌≤◌) (sym c.in_use.ensures) c.sort-sorted.ensures.1.rising)

pub returns : goal.returns
returns c = c.gathered.ensures ∙ ap (λ (l : List ℕ). joint_table (joints_of (map spot l))) c.in_use.ensures ∙ ap joint_table (same_joints c.mark_keys-ks.ensures c.sort-sorted.ensures.1.same)
