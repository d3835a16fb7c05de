-- The net numbers of a sheet are those of its nets: one number exactly on one net, 0 exactly when fed, given in the order of meeting.
use Prim.Native.Nat.{ℕ, suc, ◌<◌, ◌≤◌}
use native.Mathlib.Omega.{arith}
use mathlib.Core.List.Memᴰ.{append_left as ∈-left}
use mathlib.Core.List.Memᴰ.{append_right as ∈-right}
use mathlib.Core.List.Memᴰ.{head as ∈-head}
use mathlib.Core.List.Memᴰ.{of_map as ∈-of-map}
use mathlib.Core.List.Memᴰ.{tail as ∈-tail}
use mathlib.Core.List.{List, map}
use mathlib.Core.Path.{◌≡◌, refl, sym, ap, subst, ◌∙◌}
use lib.ListN.{length, get_or, length-map}
use Rattle.lists.specs.Lists.{◌∈◌}
use Rattle.std.specs.List.{filter}
use Rattle.lists.proofs.Appends.{length_gather}
use Rattle.lists.proofs.Lists.{gather_in, in_gather, keep_old}
use Rattle.symbol.specs.declared.Point.{Point}
use Rattle.sheet.specs.declared.Wire.{Wire}
use Rattle.sheet.specs.declared.Joint.{Joint}
use Rattle.sheet.specs.declared.Drawing.{Drawing}
use Rattle.sheet.specs.Geometry.{tip, tips, low, high, ends}
use Rattle.sheet.specs.Joints.{joint_point}
use Rattle.sheet.specs.Parts.{pads, pads_of}
use Rattle.sheet.specs.Drawings.{Sheet, marks_of, joints, zero_joint, lists_of}
use Rattle.sheet.specs.Rules.{Lawful}
use Rattle.sheet.proofs.Points.{same_reads}
use Rattle.sheet.proofs.Parts.{length_pads}
use Rattle.sheet.proofs.Rules.{lawful_room}
use Rattle.sheet.proofs.JointRows.{joints_listed}
use Rattle.nets.specs.Nets.{Numbered}
use Rattle.nets.specs.Numbers.{by_number}
use Rattle.nets.proofs.Told.{OwnNumbers, numbers_right, numbers_low}
use Rattle.net_numbers.specs.Netted.{ends_of, is_power, net_on, number_of_joint, net_numbers}
use Rattle.lists.proofs.Finding.{span_found}

-- a point with a joint has that joint's row for its number
pub number_found : (js : List Joint) (p : Point) → (j : Joint) × j ∈ js × (joint_point j ≡ p) → (m : ℕ) × (number_of_joint js p ≡ suc m) × (m < length js) × (p ≡ joint_point (get_or js m zero_joint))
unfolding number_of_joint
number_found js p t =
    let r = span_found (λ j. same_reads p (joint_point j)) zero_joint t.1 (sym t.2) in
    (_, refl, r.0, r.1)

-- a wire's ends are among all wire ends
pub low_end : {w : Wire} {ws : List Wire} → w ∈ ws → tip low w ∈ ends ws
unfolding ends
low_end m = in_gather tips m (∈-head refl)

pub high_end : {w : Wire} {ws : List Wire} → w ∈ ws → tip high w ∈ ends ws
unfolding ends
high_end m = in_gather tips m (∈-tail (∈-head refl))

module _ (s : Sheet) where
  all_joints : (p : Point) → p ∈ marks_of s → (j : Joint) × j ∈ joints s × (joint_point j ≡ p)
  unfolding joints
  all_joints = (joints_listed (marks_of s)).all

  pub pad_marked : (p : Point) → p ∈ pads_of s.parts → p ∈ marks_of s
  pad_marked p m = ∈-right (ends s.wires) m

  pub power_pad : (p : Point) → p ∈ pads_of (filter is_power s.parts) → p ∈ pads_of s.parts
  power_pad p m = let r = gather_in pads (filter is_power s.parts) m in in_gather pads (keep_old is_power s.parts r.1) r.2

  tips_marked : (w : Wire) → w ∈ s.wires → tip low w ∈ marks_of s × tip high w ∈ marks_of s
  tips_marked w m = (∈-left _ (low_end m), ∈-left _ (high_end m))

  own : (p q : Point) → p ∈ marks_of s → q ∈ marks_of s → number_of_joint (joints s) p ≡ number_of_joint (joints s) q → p ≡ q
  own p q m n e =
      let a = number_found (joints s) p (all_joints p m) in
      let b = number_found (joints s) q (all_joints q n) in
      let i : a.0 ≡ b.0 = omega (arith, a.1, b.1, e) in
      a.3 ∙ ap (λ k. joint_point (get_or (joints s) k zero_joint)) i ∙ sym b.3

  own_numbers : OwnNumbers (λ p. p ∈ marks_of s) (number_of_joint (joints s)) (net_on s) (pads_of s.parts)
  unfolding number_of_joint
  own_numbers = record {
    own = own;
    above = λ p m. omega arith;
    ends = λ l m. let r = ∈-of-map ends_of s.wires m in subst (λ k. k.0 ∈ marks_of s × k.1 ∈ marks_of s) r.2 (tips_marked r.0 r.1);
    powered = λ p m. pad_marked p (power_pad p m);
    padded = pad_marked;
  }

  -- "Going through the components in row order and each one's pads in symbol order, each net not met before gets the next number from 1."
  pub numbered : Numbered (net_on s) (pads_of s.parts) (net_numbers s)
  unfolding net_numbers
  numbered = numbers_right own_numbers

  -- no number is above the number of pads
  net_numbers_low : (i : ℕ) → get_or (net_numbers s) i 0 ≤ length (pads_of s.parts)
  unfolding net_numbers
  net_numbers_low i =
      let ns : List ℕ = map (number_of_joint (joints s)) (pads_of s.parts) in
      omega (arith, numbers_low (by_number (number_of_joint (joints s)) (net_on s)) ns i, length-map (pads_of s.parts) (number_of_joint (joints s)))

-- a drawing has at most 384 pads
pub net_numbers_few : {d : Drawing} → Lawful d → (i : ℕ) → get_or (net_numbers (lists_of d)) i 0 ≤ 384
net_numbers_few {d} l i = omega (arith, net_numbers_low (lists_of d) i, length_gather pads length_pads (lists_of d).parts, (lawful_room l).parts)
