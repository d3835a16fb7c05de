-- The tests of rules 3, 4 and 6 decide them.
use mathlib.Core.Bool.{Bool, true, false, not, beq}
use mathlib.Core.List.{List}
use mathlib.Core.Path.{◌≡◌}
use mathlib.Core.Logic.{◌⊎◌, inl, inr}
use native.Mathlib.Omega.{arith}
use Rattle.lists.specs.Lists.{◌∈◌}
use Rattle.std.specs.List.{filter}
use Rattle.lists.proofs.Tests.{Reads, reads_as, not_reads, and_reads, or_reads, eqb_reads}
use Rattle.lists.proofs.Lists.{any_reads, all_reads, pairs_reads, keep_old}
use Rattle.symbol.specs.declared.Point.{Point}
use Rattle.sheet.specs.declared.Wire.{Wire}
use Rattle.sheet.specs.declared.Joint.{Joint}
use Rattle.sheet.specs.Geometry.{ends, marks, Inside}
use Rattle.sheet.specs.Joints.{joint_point, number}
use Rattle.sheet.specs.Rules.{ends_at, Rule3, Rule4, Rule6}
use Rattle.sheet.proofs.Points.{same_reads, member_reads}
use Rattle.sheet.proofs.Geometry.{inside_reads, ends_in, in_ends}
use Rattle.sheet.proofs.JointRows.{number_in}
use Rattle.rules.specs.Check.{free, check3, bare, check4, check6}

pub free_reads : (ws : List Wire) (p : Point) → Reads ((w : Wire) → w ∈ ws → Inside p w → ⊥) (free ws p)
unfolding free
free_reads ws p = all_reads (λ w. not_reads (inside_reads p w)) ws

pub reads3 : (ws : List Wire) (ps : List Point) → Reads (Rule3 ws ps) (check3 ws ps)
unfolding check3
reads3 ws ps = all_reads (free_reads ws) (marks ws ps)

-- the point holds exactly two wire ends, of direction v, and no pad
abbrev Bare : Bool → List Wire → List Point → Point → Type 0
Bare v ws ps p = (ends_at v ws p ≡ 2) × ((ends_at (not v) ws p ≡ 0) × (p ∈ ps → ⊥))

bare_reads : (v : Bool) (ws : List Wire) (ps : List Point) (p : Point) → Reads (Bare v ws ps p) (bare v ws ps p)
unfolding bare
bare_reads v ws ps p = and_reads (eqb_reads (ends_at v ws p) 2) (and_reads (eqb_reads (ends_at (not v) ws p) 0) (not_reads (member_reads p ps)))

-- where wire ends are counted there is one
counted_end : (v : Bool) (ws : List Wire) (p : Point) → ends_at v ws p ≡ 2 → p ∈ ends ws
unfolding ends_at
counted_end v ws p e =
    let f : Wire → Bool = λ w. beq w.vertical v in
    let r = ends_in (filter f ws) (number_in p (ends (filter f ws)) (omega arith)) in
    in_ends (r.0, keep_old f ws r.1, r.2)

pub reads4 : (ws : List Wire) (ps : List Point) → Reads (Rule4 ws ps) (check4 ws ps)
unfolding check4
reads4 ws ps = reads_as (into, out) (all_reads (λ p. not_reads (or_reads (bare_reads false ws ps p) (bare_reads true ws ps p))) (ends ws))
  where
    into : ((p : Point) → p ∈ ends ws → (Bare false ws ps p ⊎ Bare true ws ps p → ⊥)) → Rule4 ws ps
    into f p true two zero free = f p (counted_end true ws p two) (inr (two, (zero, free)))
    into f p false two zero free = f p (counted_end false ws p two) (inl (two, (zero, free)))

    out : Rule4 ws ps → (p : Point) → p ∈ ends ws → (Bare false ws ps p ⊎ Bare true ws ps p → ⊥)
    out r p m (inl t) = r p false t.0 t.1.0 t.1.1
    out r p m (inr t) = r p true t.0 t.1.0 t.1.1

pub reads6 : (js : List Joint) (ps : List Point) → Reads (Rule6 js ps) (check6 js ps)
unfolding check6
reads6 js ps = reads_as
    (λ t. record { once = t.0; all = t.1.0; only = λ j m. (t.1.1 j m).0; right = λ j m. (t.1.1 j m).1 }, λ l. (l.once, (l.all, λ j m. (l.only j m, l.right j m))))
    (and_reads (pairs_reads (λ i j. not_reads (same_reads (joint_point i) (joint_point j))) js)
    (and_reads (all_reads (λ p. any_reads (λ j. same_reads (joint_point j) p) js) ps)
    (all_reads (λ j. and_reads (member_reads (joint_point j) ps) (eqb_reads j.count (number (joint_point j) ps))) js)))
