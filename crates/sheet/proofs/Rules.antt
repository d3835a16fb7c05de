-- The rules as document 01 words them, on tables, are the rules as the edits' laws use them, on lists; a lawful drawing is the
-- drawing of the sheet that it holds.
use Prim.Native.Nat.{ℕ, ◌-◌, ◌≤◌}
use mathlib.Core.List.{List}
use mathlib.Core.Path.{◌≡◌, refl, sym, subst, subst₂}
use mathlib.Core.Logic.{◌↔◌}
use native.Mathlib.Omega.{arith}
use lib.ListN.{length, take, replicate, length-take}
use lib.Seq.{take-append_seam}
use Rattle.lists.specs.Lists.{◌∈◌, Rows}
use Rattle.lists.specs.Tables.{pad, Holds}
use Rattle.lists.proofs.Tables.{blank_holds, holds_blank}
use Rattle.symbol.specs.declared.Point.{Point}
use Rattle.sheet.specs.declared.Wire.{Wire}
use Rattle.sheet.specs.declared.Component.{Component}
use Rattle.sheet.specs.declared.Drawing.{Drawing}
use Rattle.sheet.specs.Points.{Rise}
use Rattle.sheet.specs.Joints.{Rising}
use Rattle.sheet.specs.Parts.{position, pads_of, PartFits}
use Rattle.sheet.specs.Drawings.{marks_of, joints, zero_wire, zero_component, zero_joint, joint_rows, lists_of, drawn, Sheet, Sized}
use Rattle.sheet.specs.Wiring.{AllFit, Wired}
use Rattle.sheet.proofs.Wiring.{Good, Roomy}
use Rattle.sheet.specs.Rules.{Rule6, Blank, Rule2, Rule3, Rule4, Rule5, Rule1, Lawful, Upward}
use Rattle.sheet.proofs.JointRows.{rules_6_7}
use Rattle.sheet.proofs.Totals.{joint_room}
use Rattle.sheet.proofs.RowOrder.{rules_2_7}
use Rattle.sheet.proofs.Rule4.{rule_4}

-- ---- wires and sheets

-- what the rules say of wires and pads, in document 01's words
pub record WireRules (ws : List Wire) (ps : List Point) : Type 0 where
  pub fits : AllFit ws
  pub rule2 : Rule2 ws
  pub rule3 : Rule3 ws ps
  pub rule4 : Rule4 ws ps
  pub rise : Rows Upward ws

pub wired_rules : (ws : List Wire) (ps : List Point) → Wired ws ps ↔ WireRules ws ps
wired_rules ws ps = (into, out)
  where
    into : Wired ws ps → WireRules ws ps
    into l = let c = l.clean in let o = (rules_2_7 c.fits).0 c.order in record { fits = c.fits; rule2 = o.0; rule3 = c.clear; rule4 = (rule_4 ps c.fits o.0).1 l.anchored; rise = o.1 }

    out : WireRules ws ps → Wired ws ps
    out r = record { clean = record { fits = r.fits; order = (rules_2_7 r.fits).1 (r.rule2, r.rise); clear = r.rule3 }; anchored = (rule_4 ps r.fits r.rule2).0 r.rule4 }

-- ---- a lawful drawing

module _ {d : Drawing} (l : Lawful d) where
  pub lawful_good : Good (lists_of d)
  lawful_good = record {
    wires = (wired_rules (lists_of d).wires (pads_of (lists_of d).parts)).1 (record { fits = l.rule1.wires_fit; rule2 = l.rule2; rule3 = l.rule3; rule4 = l.rule4; rise = l.rule7.wires_rise });
    fits = l.rule1.components_fit;
    order = l.rule7.components_rise;
    apart = l.rule5;
  }

  pub lawful_room : Roomy (lists_of d)
  lawful_room = record { wires = omega (arith, length-take d.wires.count d.wires.rows, l.rule1.wire_room); parts = omega (arith, length-take d.components.count d.components.rows, l.rule1.component_room) }

  -- rules 6 and 7: the joint rows are those of the sheet
  pub lawful_joints : joint_rows d.joints ≡ joints (lists_of d)
  unfolding joints
  lawful_joints = (rules_6_7 (joint_rows d.joints) (marks_of (lists_of d))).0 (l.rule7.joints_rise, l.rule6)

  pub lawful_drawn : Sized d → d ≡ drawn (lists_of d)
  unfolding drawn
  lawful_drawn z =
      let ws = blank_holds {z = zero_wire} {rows = d.wires.rows} z.wires l.rule1.wire_room l.rule1.wires_blank in
      let cs = blank_holds {z = zero_component} {rows = d.components.rows} z.components l.rule1.component_room l.rule1.components_blank in
      let js = blank_holds {z = zero_joint} {rows = d.joints.rows} z.joints l.rule1.joint_room l.rule1.joints_blank in
      let js' = subst (λ r. Holds 1408 zero_joint r d.joints.rows d.joints.count) lawful_joints js in
      λ i. record { wires = record { rows = ws.rows_are i; count = ws.count_is i }; components = record { rows = cs.rows_are i; count = cs.count_is i }; joints = record { rows = js'.rows_are i; count = js'.count_is i } }

-- ---- the drawing of a sheet

-- a table's rows in use are its list, and those behind are all zero
module _ {A : Type 0} (n : ℕ) (z : A) (xs : List A) where
  rows_used : take (length xs) (pad n z xs) ≡ xs
  unfolding pad
  rows_used = take-append_seam xs (replicate (n - length xs) z)

  rows_blank : length xs ≤ n → Blank z (length xs) (pad n z xs)
  rows_blank h = holds_blank {xs = xs} (record { rows_are = refl; count_is = refl; room = h })

-- the rows in use are the sheet's
pub drawn_lists : (s : Sheet) → lists_of (drawn s) ≡ s
unfolding drawn
drawn_lists s = λ i. record { wires = rows_used 512 zero_wire s.wires i; parts = rows_used 128 zero_component s.parts i }

pub drawn_joints : (s : Sheet) → joint_rows (drawn s).joints ≡ joints s
unfolding drawn
drawn_joints s = rows_used 1408 zero_joint (joints s)

module _ {s : Sheet} (room : Roomy s) where
  pub drawn_lawful : Good s → Lawful (drawn s)
  drawn_lawful good =
      let w = (wired_rules s.wires (pads_of s.parts)).0 good.wires in
      let j = (rules_6_7 (joints s) (marks_of s)).1 (unfold joints in refl) in
      let e = sym (drawn_lists s) in
      let f = sym (drawn_joints s) in
      record {
        rule1 = first e w.fits;
        rule2 = subst (λ (t : Sheet). Rule2 t.wires) e w.rule2;
        rule3 = subst (λ (t : Sheet). Rule3 t.wires (pads_of t.parts)) e w.rule3;
        rule4 = subst (λ (t : Sheet). Rule4 t.wires (pads_of t.parts)) e w.rule4;
        rule5 = subst (λ (t : Sheet). Rule5 t.parts) e good.apart;
        rule6 = subst₂ (λ t js. Rule6 js (marks_of t)) e f j.1;
        rule7 = record {
          wires_rise = subst (λ (t : Sheet). Rows Upward t.wires) e w.rise;
          components_rise = subst (λ (t : Sheet). Rows (λ b c. Rise (position b) (position c)) t.parts) e good.order;
          joints_rise = subst Rising f j.0;
        };
      }
    where
      first : s ≡ lists_of (drawn s) → AllFit s.wires → Rule1 (drawn s)
      first e fits = record {
        wire_room = unfold drawn in room.wires;
        component_room = unfold drawn in room.parts;
        joint_room = unfold drawn in joint_room room;
        wires_blank = unfold drawn in rows_blank 512 zero_wire s.wires room.wires;
        components_blank = unfold drawn in rows_blank 128 zero_component s.parts room.parts;
        joints_blank = unfold drawn in rows_blank 1408 zero_joint (joints s) (joint_room room);
        wires_fit = subst (λ (t : Sheet). AllFit t.wires) e fits;
        components_fit = subst (λ (t : Sheet). (c : Component) → c ∈ t.parts → PartFits c) e good.fits;
      }

-- a drawing is lawful just where it is the drawing of a good sheet that has room
pub lawful_is : (d : Drawing) → Sized d → Lawful d ↔ (Good (lists_of d) × Roomy (lists_of d) × (d ≡ drawn (lists_of d)))
lawful_is d z = (λ l. (lawful_good l, lawful_room l, lawful_drawn l z), λ t. subst Lawful (sym t.2) (drawn_lawful t.1 t.0))
