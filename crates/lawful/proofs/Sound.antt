-- Where all that the fast check looks at is right, the drawing is lawful.
use mathlib.Core.Bool.{Bool, true, false, ◌&&◌}
use mathlib.Core.List.{List}
use mathlib.Core.Path.{◌≡◌, refl, sym, ap, subst, ◌∙◌}
use lib.Dec.{T}
use Rattle.lists.specs.Lists.{◌∈◌, Rows, links}
use Rattle.lists.proofs.Tests.{holds, and_reads, true_reads}
use Rattle.lists.proofs.Lists.{links_reads}
use Rattle.symbol.specs.declared.Point.{Point}
use Rattle.sheet.specs.declared.Wire.{Wire}
use Rattle.sheet.specs.declared.Component.{Component}
use Rattle.sheet.specs.declared.Joint.{Joint}
use Rattle.sheet.specs.declared.Drawing.{Drawing}
use Rattle.sheet.specs.Geometry.{marks, Follows, Before, tip, high}
use Rattle.sheet.specs.Points.{rises}
use Rattle.sheet.specs.Joints.{joint_point, joints_of, Rising}
use Rattle.sheet.specs.Parts.{position, pads_of, ahead}
use Rattle.sheet.specs.Drawings.{Sheet, joint_rows, lists_of, marks_of, Sized}
use Rattle.sheet.specs.Wiring.{AllFit, HeldApart, Wired}
use Rattle.sheet.specs.Rules.{Rule2, Rule3, Rule5, Lawful}
use Rattle.sheet.proofs.Points.{rises_reads, rise_chain}
use Rattle.sheet.proofs.JointRows.{rules_6_7, joints_rising}
use Rattle.sheet.proofs.RowOrder.{rules_2_7}
use Rattle.sheet.proofs.Rules.{wired_rules}
use Rattle.limits.specs.Limits.{check1}
use Rattle.limits.proofs.Decides.{sized_behind, reads1}
use Rattle.lawful.specs.Looks.{before, Runs}
use Rattle.lawful.proofs.Ordered.{ordered}
use Rattle.lawful.proofs.Seen.{none_inside, held_apart}

-- what holds in both directions
either : (v : Bool) (P : Bool → Type 0) → P false → P true → P v
either true P f t = t
either false P f t = f

-- ---- wires

-- in order, and those of each direction clear
wired : {ws : List Wire} (ps : List Point) {js : List Joint} → AllFit ws → T (links before ws) → js ≡ joints_of (marks ws ps) → Runs false js ws → Runs true js ws → Wired ws ps
wired {ws} ps {js} fits t e level up = record { clean = record { fits = fits; order = order; clear = clear }; anchored = anchored }
  where
    order : Rows Before ws
    order = ordered ws fits t

    two : Rule2 ws
    two = ((rules_2_7 fits).0 order).0

    clear : Rule3 ws ps
    clear p m w n i = either w.vertical (λ v. w.vertical ≡ v → ⊥) (λ d. none_inside ps false e level p m w n d i) (λ d. none_inside ps true e up p m w n d i) refl

    anchored : (a b : Wire) → a ∈ ws → b ∈ ws → Follows a b → HeldApart ws ps a.vertical (tip high a)
    anchored a b m n g = either a.vertical (λ v. a.vertical ≡ v → HeldApart ws ps a.vertical (tip high a)) (held_apart ps false e level fits two order a b m n g) (held_apart ps true e up fits two order a b m n g) refl

-- what the looks at the wires answer
module _ (ws : List Wire) (ps : List Point) {js : List Joint} (e : js ≡ joints_of (marks ws ps)) where
  pub joints_rise : Rising js
  joints_rise = subst Rising (sym e) (joints_rising (marks ws ps))

  pub wires_sound : {a b c : Bool} → a ≡ links before ws → (b ≡ true → Runs false js ws) → (c ≡ true → Runs true js ws) → (a && (b && c)) ≡ true → AllFit ws → Wired ws ps
  wires_sound {a} {b} {c} p q r t fits =
      let k = holds (and_reads (true_reads a) (and_reads (true_reads b) (true_reads c))) (subst T (sym t) tt) in
      wired ps fits (subst T (sym (sym p ∙ k.0)) tt) e (q k.1.0) (r k.1.1)

-- ---- joints

-- rows of which each and the next rise, rise
pub rows_rise : (js : List Joint) → T (links (λ i j. rises (joint_point i) (joint_point j)) js) → Rising js
rows_rise js t = (rise_chain joint_point).1 (holds (links_reads (λ i j. rises_reads (joint_point i) (joint_point j)) js) t)

-- ---- the drawing

module _ (d : Drawing) (z : Sized d) (one : check1 d ≡ true) where
  abbrev s : Sheet
  s = lists_of d

  pub all_sound : {ps : List Point} {cs : List Component} {ws : List Wire} → cs ≡ s.parts → ws ≡ s.wires → {b c e : Bool} → ps ≡ pads_of s.parts → joint_rows d.joints ≡ joints_of (marks s.wires ps) → b ≡ links ahead cs
      → (c ≡ true → T (links ahead cs) → Rule5 cs) → (e ≡ true → AllFit ws → Wired ws ps) → (b && (c && e)) ≡ true → Lawful d
  all_sound {ps} u v {b} {c} {e} f p q0 r0 w0 t =
      let q : b ≡ links ahead s.parts = q0 ∙ ap (links ahead) u in
      let r = subst (λ (l : List Component). c ≡ true → T (links ahead l) → Rule5 l) u r0 in
      let w = subst (λ (l : List Wire). e ≡ true → AllFit l → Wired l ps) v w0 in
      let k = holds (and_reads (true_reads b) (and_reads (true_reads c) (true_reads e))) (subst T (sym t) tt) in
      let rise : T (links ahead s.parts) = subst T (sym (sym q ∙ k.0)) tt in
      let first = holds (reads1 d (sized_behind d z)) (subst T (sym one) tt) in
      let j = (rules_6_7 (joint_rows d.joints) (marks_of s)).1 (p ∙ ap (λ (ps : List Point). joints_of (marks s.wires ps)) f) in
      let v = (wired_rules s.wires (pads_of s.parts)).0 (subst (Wired s.wires) f (w k.1.1 first.wires_fit)) in
      record {
        rule1 = first;
        rule2 = v.rule2;
        rule3 = v.rule3;
        rule4 = v.rule4;
        rule5 = r k.1.0 rise;
        rule6 = j.1;
        rule7 = record {
          wires_rise = v.rise;
          components_rise = (rise_chain position).1 (holds (links_reads (λ b c. rises_reads (position b) (position c)) s.parts) rise);
          joints_rise = j.0;
        };
      }
