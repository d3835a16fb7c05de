-- Rules 3, 4 and 6 as the plain check looks at them: over the joints counted afresh, and over wires that go on in line.
use mathlib.Core.Bool.{true, false, ◌&&◌, not}
use mathlib.Core.List.{List, ◌∷◌}
use mathlib.Core.Path.{◌≡◌, sym, ap, subst, ◌∙◌}
use mathlib.Core.Logic.{⊎_elim, ◌⊎◌, inl, inr}
use native.Mathlib.Omega.{arith}
use Rattle.lists.specs.Lists.{◌∈◌, Rows, pairs}
use Rattle.std.specs.List.{list_any, list_all}
use Rattle.lists.proofs.Tests.{Reads, same_test, stable, decide, reads_as, not_reads, and_reads, or_reads, eqb_reads, beq_reads}
use Rattle.lists.proofs.Lists.{any_reads, all_reads, pairs_reads}
use Rattle.symbol.specs.declared.Point.{Point}
use Rattle.sheet.specs.declared.Wire.{Wire}
use Rattle.sheet.specs.declared.Joint.{Joint}
use Rattle.sheet.specs.Points.{same}
use Rattle.sheet.specs.Geometry.{high, tip, marks, Inside, Follows}
use Rattle.sheet.specs.Joints.{joint_point, number, count_at, joints_of}
use Rattle.sheet.specs.Wiring.{AllFit}
use Rattle.sheet.specs.Rules.{Rule2, Rule3, Rule4, Rule6}
use Rattle.sheet.proofs.Points.{same_reads}
use Rattle.sheet.proofs.Held.{held_reads}
use Rattle.sheet.proofs.Rule4.{rule_4, count_two, count_above}
use Rattle.sheet.proofs.JointRows.{joints_listed, count_joints}
use Rattle.rules.specs.Check.{free, check3, check4, check6}
use Rattle.merge.specs.Following.{goes_on}
use Rattle.rules.specs.Steps.{parted, same_row}
use Rattle.rules.proofs.Decides.{free_reads, reads3, reads4, reads6}

-- the points of wire ends and pads are those of the joints
pub rule_3_joints : (ws : List Wire) (ps : List Point) → list_all (λ j. free ws (joint_point j)) (joints_of (marks ws ps)) ≡ check3 ws ps
rule_3_joints ws ps = same_test (reads_as (into, out) (all_reads (λ j. free_reads ws (joint_point j)) js)) (reads3 ws ps)
  where
    js : List Joint
    js = joints_of (marks ws ps)

    into : ((j : Joint) → j ∈ js → (w : Wire) → w ∈ ws → Inside (joint_point j) w → ⊥) → Rule3 ws ps
    into f p m = let t = (joints_listed (marks ws ps)).all p m in subst (λ q. (w : Wire) → w ∈ ws → Inside q w → ⊥) t.2 (f t.0 t.1)

    out : Rule3 ws ps → (j : Joint) → j ∈ js → (w : Wire) → w ∈ ws → Inside (joint_point j) w → ⊥
    out r j m = r (joint_point j) ((joints_listed (marks ws ps)).only j m)

pub goes_on_reads : (a b : Wire) → Reads (Follows a b) (goes_on a b)
unfolding goes_on
goes_on_reads a b = reads_as (λ t. record { dir = t.0; line = t.1.0; end = t.1.1 }, λ f. (f.dir, (f.line, f.end)))
    (and_reads (beq_reads a.vertical b.vertical) (and_reads (eqb_reads a.line b.line) (eqb_reads a.end b.start)))

-- where no wires share a length, rule 4 is that more than two ends lie where one goes on in line
pub rule_4_counts : {ws : List Wire} (ps : List Point) → AllFit ws → Rule2 ws → list_all (parted ws (joints_of (marks ws ps))) ws ≡ check4 ws ps
unfolding parted
rule_4_counts {ws} ps fits two = same_test
    (reads_as (into, out) (all_reads (λ a. or_reads (not_reads (any_reads (goes_on_reads a) ws)) (not_reads (eqb_reads (count_at (tip high a) (joints_of (marks ws ps))) 2))) ws)) (reads4 ws ps)
  where
    Parted : Wire → Type 0
    Parted a = (((b : Wire) × b ∈ ws × Follows a b) → ⊥) ⊎ (count_at (tip high a) (joints_of (marks ws ps)) ≡ 2 → ⊥)

    into : ((a : Wire) → a ∈ ws → Parted a) → Rule4 ws ps
    into f = (rule_4 ps fits two).1 (λ a b m n e. stable (held_reads ws ps a.vertical (tip high a))
        (λ g. ⊎_elim (λ h. h (b, n, e)) (λ h. h (count_joints (tip high a) (marks ws ps) ∙ count_two ps fits two a b m n e g)) (f a m)))

    out : Rule4 ws ps → (a : Wire) → a ∈ ws → Parted a
    out r a m = ⊎_elim
        (λ t. inr (λ z. let h = count_above ps fits two a t.0 m t.1 t.2 ((rule_4 ps fits two).0 r a t.0 m t.1 t.2) in omega (arith, count_joints (tip high a) (marks ws ps))))
        inl (decide (any_reads (goes_on_reads a) ws))

pub row_reads : (i j : Joint) → Reads (i ≡ j) (same_row i j)
unfolding same_row
row_reads i j = reads_as (
  λ t. λ k. record { x = ap (λ (p : Point). p.x) t.0 k; y = ap (λ (p : Point). p.y) t.0 k; count = t.1 k },
  λ e. (ap joint_point e, ap (λ (j : Joint). j.count) e),
)
    (and_reads (same_reads (joint_point i) (joint_point j)) (eqb_reads i.count j.count))

-- the joint rows list what the joints counted afresh list
pub rule_6_rows : (js : List Joint) (ps : List Point)
    → (pairs (λ i j. not (same (joint_point i) (joint_point j))) js && (list_all (λ i. list_any (same_row i) js) (joints_of ps) && list_all (λ j. list_any (same_row j) (joints_of ps)) js)) ≡ check6 js ps
rule_6_rows js ps = same_test
    (reads_as (into, out)
    (and_reads (pairs_reads (λ i j. not_reads (same_reads (joint_point i) (joint_point j))) js)
    (and_reads (all_reads (λ i. any_reads (row_reads i) js) (joints_of ps)) (all_reads (λ j. any_reads (row_reads j) (joints_of ps)) js))))
    (reads6 js ps)
  where
    there : Rule6 (joints_of ps) ps
    there = joints_listed ps

    -- each row of one is among the other
    Among : List Joint → List Joint → Type 0
    Among xs ys = (i : Joint) → i ∈ xs → (j : Joint) × j ∈ ys × (i ≡ j)

    into : Rows (λ i j. joint_point i ≡ joint_point j → ⊥) js × (Among (joints_of ps) js × Among js (joints_of ps)) → Rule6 js ps
    into t = record {
      once = t.0;
      all = λ p m. let i = there.all p m in let j = t.1.0 i.0 i.1 in (j.0, j.1, sym (ap joint_point j.2) ∙ i.2);
      only = λ j m. let i = t.1.1 j m in subst (λ k. joint_point k ∈ ps) (sym i.2) (there.only i.0 i.1);
      right = λ j m. let i = t.1.1 j m in subst (λ (k : Joint). k.count ≡ number (joint_point k) ps) (sym i.2) (there.right i.0 i.1);
    }

    -- two lists of the same points have the same rows
    one : (xs ys : List Joint) → Rule6 xs ps → Rule6 ys ps → Among xs ys
    one xs ys a b i m =
        let j = b.all (joint_point i) (a.only i m) in
        let c : i.count ≡ j.0.count = a.right i m ∙ ap (λ p. number p ps) (sym j.2) ∙ sym (b.right j.0 j.1) in
        (j.0, j.1, λ k. record { x = ap (λ (p : Point). p.x) (sym j.2) k; y = ap (λ (p : Point). p.y) (sym j.2) k; count = c k })

    out : Rule6 js ps → Rows (λ i j. joint_point i ≡ joint_point j → ⊥) js × (Among (joints_of ps) js × Among js (joints_of ps))
    out l = (l.once, (one (joints_of ps) js there l, one js (joints_of ps) l there))

-- the count at a point, as a walk over the rows finds it
pub count_here : (p : Point) (j : Joint) (js : List Joint) → same p (joint_point j) ≡ true → count_at p (j ∷ js) ≡ j.count
unfolding count_at
count_here p j js e = rw e

pub count_behind : (p : Point) (j : Joint) (js : List Joint) → same p (joint_point j) ≡ false → count_at p (j ∷ js) ≡ count_at p js
unfolding count_at
count_behind p j js e = rw e
