-- The sum of all joint counts is twice the wires plus the pads, and the joint rows never run out.
use Prim.Native.Nat.{◌+◌, ◌*◌, ◌≤◌}
use mathlib.Core.Path.{◌≡◌}
use native.Mathlib.Omega.{arith}
use lib.ListN.{length, length-append}
use Rattle.lists.proofs.Appends.{length_gather}
use Rattle.sheet.specs.Geometry.{ends}
use Rattle.sheet.specs.Parts.{pads, pads_of}
use Rattle.sheet.specs.Drawings.{marks_of, joints, tally_of, Sheet}
use Rattle.sheet.proofs.Wiring.{Roomy}
use Rattle.sheet.proofs.JointRows.{total_joints, length_joints, length_ends}
use Rattle.sheet.proofs.Parts.{length_pads}

-- "That sum equals twice the wires plus the pads."
pub tally_sum : (s : Sheet) → (tally_of s).ends ≡ 2 * length s.wires + length (pads_of s.parts)
unfolding tally_of joints
tally_sum s = omega (arith, total_joints (marks_of s), length-append (ends s.wires) (pads_of s.parts), length_ends s.wires)

pub joints_few : (s : Sheet) → length (joints s) ≤ 2 * length s.wires + 3 * length s.parts
unfolding joints
joints_few s = omega (arith, length_joints (marks_of s), length-append (ends s.wires) (pads_of s.parts), length_ends s.wires, length_gather pads length_pads s.parts)

-- "1,408 joints (twice 512 and three times 128, so joints can't run out)"
pub joint_room : {s : Sheet} → Roomy s → length (joints s) ≤ 1408
joint_room {s} room = omega (arith, joints_few s, room.wires, room.parts)
