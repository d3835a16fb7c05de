-- Tables put together are the drawing of their sheet, and its numbers are the tally's.
use Prim.Native.Nat.{ℕ, ◌+◌, ◌*◌, ◌≤◌}
use native.Mathlib.Omega.{arith}
use mathlib.Core.List.{List}
use mathlib.Core.Path.{◌≡◌, sym, ap, ◌∙◌}
use lib.ListN.{length}
use lib.Seq.{length-take-le}
use Rattle.lists.proofs.Appends.{length_gather}
use Rattle.symbol.specs.declared.Point.{Point}
use Rattle.sheet.specs.Tables.{Wires}
use Rattle.sheet.specs.Tables.{Components}
use Rattle.sheet.specs.Tables.{Joints}
use Rattle.sheet.specs.declared.Drawing.{Drawing}
use Rattle.sheet.specs.declared.Tally.{Tally}
use Rattle.sheet.specs.Geometry.{marks}
use Rattle.sheet.specs.Joints.{joints_of}
use Rattle.sheet.specs.Parts.{pads, pads_of}
use Rattle.sheet.specs.Drawings.{joints, wire_rows, component_rows, lists_of, joint_table, drawn, tally_of}
use Rattle.sheet.proofs.Parts.{length_pads}
use Rattle.sheet.proofs.Totals.{tally_sum, joints_few}
use Rattle.joints.specs.Tables.{sheet_of, Sound, Counted}

pub drawing_is : {ws : Wires} {cs : Components} {js : Joints} {ps : List Point} → Sound ws cs → js ≡ joint_table (joints_of (marks (wire_rows ws) ps)) → ps ≡ pads_of (component_rows cs)
    → ◌≡◌ {A = Drawing} (record { wires = ws; components = cs; joints = js }) (drawn (sheet_of ws cs))
unfolding drawn joints
drawing_is {ws} {cs} {js} s e p =
    let all : js ≡ joint_table (joints (sheet_of ws cs)) = e ∙ ap (λ qs. joint_table (joints_of (marks (wire_rows ws) qs))) p in
    λ i. record {
      wires = record { rows = s.wires.rows_are i; count = s.wires.count_is i };
      components = record { rows = s.parts.rows_are i; count = s.parts.count_is i };
      joints = all i;
    }

-- the numbers of a drawing, with m pads
abbrev pub numbers : Drawing → ℕ → Tally
numbers d m = record { wires = d.wires.count; joints = d.joints.count; components = d.components.count; ends = 2 * d.wires.count + m }

module _ (d : Drawing) (h : Counted d) (w : length d.wires.rows ≡ 512) (c : length d.components.rows ≡ 128) where
  wires_are : length (wire_rows d.wires) ≡ d.wires.count
  wires_are = length-take-le d.wires.count d.wires.rows (omega (arith, h.wires))

  parts_are : length (component_rows d.components) ≡ d.components.count
  parts_are = length-take-le d.components.count d.components.rows (omega (arith, h.parts))

  joints_are : d.joints.count ≡ length (joints (lists_of d))
  joints_are = ap (λ (t : Joints). t.count) h.joints_are

  pub few_joints : d.joints.count ≤ 1408
  few_joints = omega (arith, joints_are, joints_few (lists_of d), wires_are, parts_are, h.wires, h.parts)

  pub few_pads : {m : ℕ} → m ≡ length (pads_of (component_rows d.components)) → m ≤ 384
  few_pads e = omega (arith, length_gather pads length_pads (component_rows d.components), parts_are, h.parts)

  pub tally_is : {m : ℕ} → m ≡ length (pads_of (component_rows d.components)) → numbers d m ≡ tally_of (lists_of d)
  unfolding tally_of
  tally_is {m} e =
      let sum : 2 * d.wires.count + m ≡ (tally_of (lists_of d)).ends = omega (arith, tally_sum (lists_of d), wires_are) in
      λ i. record { wires = sym wires_are i; joints = joints_are i; components = sym parts_are i; ends = sum i }
