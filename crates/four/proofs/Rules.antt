-- A drawing is lawful exactly if its translation is.
use Prim.Native.Nat.{ℕ}
use mathlib.Core.List.Memᴰ.{map as ∈-map}
use mathlib.Core.List.Memᴰ.{of_map as ∈-of-map}
use mathlib.Core.List.{List, [], ◌∷◌, map}
use mathlib.Core.Logic.{◌↔◌}
use mathlib.Core.Path.{◌≡◌, sym, ap, subst, ◌∙◌}
use lib.Dec.{T, ltb→lt}
use lib.ListN.{drop}
use Rattle.lists.specs.Lists.{◌∈◌, Rows, none, more}
use Rattle.lists.proofs.Order.{rows_map}
use Rattle.lists.proofs.Mapped.{rear}
use Rattle.edge.specs.Coordinates.{to_ℕ}
use Rattle.orientation.proofs.Turns.{known_number, eighth_known}
use Rattle.sheet.specs.declared.Component.{Component}
use Rattle.sheet.specs.declared.Drawing.{Drawing}
use Rattle.sheet.specs.Points.{Rise}
use Rattle.sheet.specs.Geometry.{marks}
use Rattle.sheet.specs.Boxes.{Shares}
use Rattle.sheet.specs.Parts as Number
use Rattle.sheet.specs.Drawings.{lists_of, zero_component, joint_rows}
use Rattle.sheet.specs.Rules.{Lawful, Rule1, Rule3, Rule4, Rule5, Rule6}
use Rattle.four.specs.Plans.{Plan, zero_part}
use Rattle.four.specs.Plans as Four
use Rattle.four.specs.Rules
use Rattle.four.specs.Request1.{four, behind, four_drawing}
use Rattle.four.proofs.Sheets.{same_pads_of}
use Rattle.four.proofs.Drawings.{lists_same}

-- ---- limits
fits_over : (c : Component) → Number.PartFits c → Rules.PartFits (four c)
fits_over c f = record { kind = f.kind; orientation = eighth_known c.orientation f.orientation; x = f.x; y = f.y; label = f.label }

fits_back : (c : Component) → Rules.PartFits (four c) → Number.PartFits c
fits_back c f = record { kind = f.kind; orientation = ltb→lt c.orientation 8 (subst T (known_number c.orientation) f.orientation); x = f.x; y = f.y; label = f.label }

zero_back : (c : Component) → behind c ≡ zero_part → c ≡ zero_component
zero_back c e = λ i. record { kind = (e i).kind; orientation = to_ℕ (e i).turn.0; x = (e i).x; y = (e i).y; label = (e i).label }

-- ---- rows, translated back
rows_back : {A B : Type 0} (t : A → B) (R : B → B → Type 0) (xs : List A) → Rows R (map t xs) → Rows (λ x y. R (t x) (t y)) xs
rows_back t R [] r = none
rows_back t R (x ∷ xs) (more k r) = more (λ y m. k (t y) (∈-map t m)) (rows_back t R xs r)

-- ---- rules 5 and 7
apart_over : (cs : List Component) → Rule5 cs → Rules.Rule5 (map four cs)
unfolding Number.box
apart_over cs r = rows_map {R = λ b c. Shares (Four.box b) (Four.box c) → ⊥} four r

apart_back : (cs : List Component) → Rules.Rule5 (map four cs) → Rule5 cs
unfolding Number.box
apart_back cs r = rows_back four (λ b c. Shares (Four.box b) (Four.box c) → ⊥) cs r

rise_over : (cs : List Component) → Rows (λ b c. Rise (Number.position b) (Number.position c)) cs → Rows (λ b c. Rise (Four.position b) (Four.position c)) (map four cs)
rise_over cs r = rows_map {R = λ b c. Rise (Four.position b) (Four.position c)} four r

rise_back : (cs : List Component) → Rows (λ b c. Rise (Four.position b) (Four.position c)) (map four cs) → Rows (λ b c. Rise (Number.position b) (Number.position c)) cs
rise_back cs r = rows_back four (λ b c. Rise (Four.position b) (Four.position c)) cs r

-- ---- all seven
module _ (d : Drawing) where
  abbrev n : ℕ
  n = d.components.count

  abbrev rows : List Component
  rows = d.components.rows

  parts : map four (lists_of d).parts ≡ (Four.lists_of (four_drawing d)).parts
  parts = sym (ap (λ (p : Plan). p.parts) (lists_same d))

  padded : Number.pads_of (lists_of d).parts ≡ Four.pads_of (Four.lists_of (four_drawing d)).parts
  padded = sym (same_pads_of (lists_of d).parts) ∙ ap Four.pads_of parts

  rule1_over : Rule1 d → Rules.Rule1 (four_drawing d)
  rule1_over r = record {
    wire_room = r.wire_room;
    component_room = r.component_room;
    joint_room = r.joint_room;
    wires_blank = r.wires_blank;
    components_blank = λ x m. let u = ∈-of-map behind (drop n rows) (subst (λ k. x ∈ k) (rear four behind n rows) m) in sym u.2 ∙ ap behind (r.components_blank u.0 u.1);
    joints_blank = r.joints_blank;
    wires_fit = r.wires_fit;
    components_fit = λ x m. let u = ∈-of-map four (lists_of d).parts (subst (λ k. x ∈ k) (sym parts) m) in subst Rules.PartFits u.2 (fits_over u.0 (r.components_fit u.0 u.1));
  }

  rule1_back : Rules.Rule1 (four_drawing d) → Rule1 d
  rule1_back r = record {
    wire_room = r.wire_room;
    component_room = r.component_room;
    joint_room = r.joint_room;
    wires_blank = r.wires_blank;
    components_blank = λ c m. zero_back c (r.components_blank (behind c) (subst (λ k. behind c ∈ k) (sym (rear four behind n rows)) (∈-map behind m)));
    joints_blank = r.joints_blank;
    wires_fit = r.wires_fit;
    components_fit = λ c m. fits_back c (r.components_fit (four c) (subst (λ k. four c ∈ k) parts (∈-map four m)));
  }

  over : Lawful d → Rules.Lawful (four_drawing d)
  over l = let s = lists_of d in record {
    rule1 = rule1_over l.rule1;
    rule2 = l.rule2;
    rule3 = subst (Rule3 s.wires) padded l.rule3;
    rule4 = subst (Rule4 s.wires) padded l.rule4;
    rule5 = subst Rules.Rule5 parts (apart_over s.parts l.rule5);
    rule6 = subst (λ ps. Rule6 (joint_rows d.joints) (marks s.wires ps)) padded l.rule6;
    rule7 = record {
      wires_rise = l.rule7.wires_rise;
      components_rise = subst (Rows (λ b c. Rise (Four.position b) (Four.position c))) parts (rise_over s.parts l.rule7.components_rise);
      joints_rise = l.rule7.joints_rise;
    };
  }

  back : Rules.Lawful (four_drawing d) → Lawful d
  back l = let s = lists_of d in record {
    rule1 = rule1_back l.rule1;
    rule2 = l.rule2;
    rule3 = subst (Rule3 s.wires) (sym padded) l.rule3;
    rule4 = subst (Rule4 s.wires) (sym padded) l.rule4;
    rule5 = apart_back s.parts (subst Rules.Rule5 (sym parts) l.rule5);
    rule6 = subst (λ ps. Rule6 (joint_rows d.joints) (marks s.wires ps)) (sym padded) l.rule6;
    rule7 = record {
      wires_rise = l.rule7.wires_rise;
      components_rise = rise_back s.parts (subst (Rows (λ b c. Rise (Four.position b) (Four.position c))) (sym parts) l.rule7.components_rise);
      joints_rise = l.rule7.joints_rise;
    };
  }

  pub same_lawful : Lawful d ↔ Rules.Lawful (four_drawing d)
  same_lawful = (over, back)
