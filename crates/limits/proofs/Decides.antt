-- The test of rule 1 decides it.
use Prim.Native.Nat.{ℕ, ◌≤◌}
use mathlib.Core.Path.{◌≡◌, refl, sym, ap, ◌∙◌, subst}
use lib.ListN.{length, drop, replicate}
use Rattle.lists.specs.Lists.{◌∈◌}
use Rattle.lists.proofs.Tests.{Reads, test, false_reads, reads_as, and_reads, eqb_reads, leb_reads, ltb_reads}
use Rattle.lists.proofs.Tables.{all_zero, zeros_only}
use Rattle.lists.proofs.Lists.{all_reads}
use Rattle.lists.proofs.Finding.{in_drop}
use Rattle.edge.specs.Coordinates.{is_position}
use Rattle.label.specs.Labels.{label_ok}
use Rattle.sheet.specs.declared.Wire.{Wire}
use Rattle.sheet.specs.declared.Component.{Component}
use Rattle.sheet.specs.declared.Joint.{Joint}
use Rattle.sheet.specs.declared.Drawing.{Drawing}
use Rattle.sheet.specs.Parts.{PartFits}
use Rattle.sheet.specs.Drawings.{zero_wire, zero_component, zero_joint, lists_of, Sized}
use Rattle.sheet.specs.Wiring.{Fits}
use Rattle.sheet.specs.Rules.{Rule1}
use Rattle.limits.specs.Limits.{blank_wire, blank_component, blank_joint, wire_fits, component_fits, rooms, blanks, limits, check1}

blank_wire_reads : (w : Wire) → Reads (w ≡ zero_wire) (blank_wire w)
unfolding blank_wire
blank_wire_reads w = reads_as (
  λ t. λ i. record { vertical = t.0 i; line = t.1.0 i; start = t.1.1.0 i; end = t.1.1.1 i },
  λ e. (ap (λ (v : Wire). v.vertical) e, (ap (λ (v : Wire). v.line) e, (ap (λ (v : Wire). v.start) e, ap (λ (v : Wire). v.end) e))),
)
    (and_reads (false_reads w.vertical) (and_reads (eqb_reads w.line 0) (and_reads (eqb_reads w.start 0) (eqb_reads w.end 0))))

blank_joint_reads : (j : Joint) → Reads (j ≡ zero_joint) (blank_joint j)
unfolding blank_joint
blank_joint_reads j = reads_as (
  λ t. λ i. record { x = t.0 i; y = t.1.0 i; count = t.1.1 i },
  λ e. (ap (λ (k : Joint). k.x) e, (ap (λ (k : Joint). k.y) e, ap (λ (k : Joint). k.count) e)),
)
    (and_reads (eqb_reads j.x 0) (and_reads (eqb_reads j.y 0) (eqb_reads j.count 0)))

-- a component row of zeros, by its label's bytes
record Zeros (c : Component) : Type 0 where
  kind : c.kind ≡ 0
  orientation : c.orientation ≡ 0
  x : c.x ≡ 0
  y : c.y ≡ 0
  label : (b : ℕ) → b ∈ c.label → b ≡ 0

zeros_reads : (c : Component) → Reads (Zeros c) (blank_component c)
unfolding blank_component
zeros_reads c = reads_as
    (λ t. record { kind = t.0; orientation = t.1.0; x = t.1.1.0; y = t.1.1.1.0; label = t.1.1.1.1 }, λ z. (z.kind, (z.orientation, (z.x, (z.y, z.label)))))
    (and_reads (eqb_reads c.kind 0) (and_reads (eqb_reads c.orientation 0) (and_reads (eqb_reads c.x 0) (and_reads (eqb_reads c.y 0) (all_reads (λ b. eqb_reads b 0) c.label)))))

zeros_is : (c : Component) → length c.label ≡ 16 → Zeros c → c ≡ zero_component
zeros_is c n z =
    let l : c.label ≡ replicate 16 0 = all_zero 0 c.label z.label ∙ ap (λ (k : ℕ). replicate k 0) n in
    λ i. record { kind = z.kind i; orientation = z.orientation i; x = z.x i; y = z.y i; label = l i }

is_zeros : (c : Component) → c ≡ zero_component → Zeros c
is_zeros c e = subst Zeros (sym e) (record { kind = refl; orientation = refl; x = refl; y = refl; label = λ b m. zeros_only 0 16 m })

pub fits_reads : (w : Wire) → Reads (Fits w) (wire_fits w)
unfolding wire_fits
fits_reads w = reads_as (λ t. record { line = t.0; long = t.1.0; end = t.1.1 }, λ f. (f.line, (f.long, f.end)))
    (and_reads (leb_reads w.line 12000) (and_reads (ltb_reads w.start w.end) (leb_reads w.end 12000)))

pub component_reads : (c : Component) → Reads (PartFits c) (component_fits c)
unfolding component_fits
component_reads c = reads_as
    (λ t. record { kind = t.0.0; orientation = t.0.1; x = t.1.0; y = t.1.1.0; label = t.1.1.1 }, λ f. ((f.kind, f.orientation), (f.x, (f.y, f.label))))
    (and_reads (and_reads (leb_reads c.kind 2) (ltb_reads c.orientation 8)) (and_reads (inside_reads c.x) (and_reads (inside_reads c.y) (test (label_ok c.label)))))
  where
    inside_reads : (n : ℕ) → Reads ((200 ≤ n) × (n ≤ 11800)) (is_position n)
    inside_reads n = and_reads (leb_reads 200 n) (leb_reads n 11800)

-- the labels of the rows behind the count have their declared length: those of a drawing that code holds, and those of zero rows
abbrev pub LabelsBehind : Drawing → Type 0
LabelsBehind d = (c : Component) → c ∈ drop d.components.count d.components.rows → length c.label ≡ 16

pub sized_behind : (d : Drawing) → Sized d → LabelsBehind d
sized_behind d z c m = z.labels c (in_drop d.components.count d.components.rows m)

pub blank_behind : (d : Drawing) → Rule1 d → LabelsBehind d
blank_behind d r c m = ap (λ (b : Component). length b.label) (r.components_blank c m)

pub reads1 : (d : Drawing) → LabelsBehind d → Reads (Rule1 d) (check1 d)
unfolding check1 rooms blanks limits
reads1 d long = reads_as (
  λ t. record {
    wire_room = t.0.0;
    component_room = t.0.1.0;
    joint_room = t.0.1.1;
    wires_blank = t.1.0.0;
    components_blank = λ c m. zeros_is c (long c m) (t.1.0.1.0 c m);
    joints_blank = t.1.0.1.1;
    wires_fit = t.1.1.0;
    components_fit = t.1.1.1;
  },
  λ r. ((r.wire_room, (r.component_room, r.joint_room)), ((r.wires_blank, (λ c m. is_zeros c (r.components_blank c m), r.joints_blank)), (r.wires_fit, r.components_fit))),
)
    (and_reads (and_reads (leb_reads d.wires.count 512) (and_reads (leb_reads d.components.count 128) (leb_reads d.joints.count 1408)))
    (and_reads (and_reads (all_reads blank_wire_reads (drop d.wires.count d.wires.rows)) (and_reads (all_reads zeros_reads (drop d.components.count d.components.rows)) (all_reads blank_joint_reads (drop d.joints.count d.joints.rows))))
    (and_reads (all_reads fits_reads (lists_of d).wires) (all_reads component_reads (lists_of d).parts))))
