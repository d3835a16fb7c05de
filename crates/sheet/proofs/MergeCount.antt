-- Merging by the joint rows, as the Rust does: only what is said where wires go on in line counts, and there the count is 2. Before
-- a delete it was 3 or more.
use Prim.Native.Nat.{◌≤◌}
use mathlib.Core.Bool.{Bool, cond, not}
use mathlib.Core.List.Memᴰ.{head as ∈-head}
use mathlib.Core.List.Memᴰ.{tail as ∈-tail}
use mathlib.Core.List.{List, [], ◌∷◌}
use mathlib.Core.Path.{◌≡◌, refl, sym, subst, ap, ◌∙◌}
use native.Mathlib.Omega.{arith}
use lib.Dec.{T, eqb}
use Rattle.lists.specs.Lists.{◌∈◌}
use Rattle.std.specs.List.{filter}
use Rattle.lists.proofs.Tests.{test, stable, reads_as, not_reads, same_test, eqb_reads}
use Rattle.lists.proofs.Lists.{keep_old}
use Rattle.symbol.specs.declared.Point.{Point}
use Rattle.sheet.specs.declared.Wire.{Wire}
use Rattle.sheet.specs.Geometry.{tip, marks, Follows, low, high}
use Rattle.sheet.specs.Merge.{held_apart, joins, join, glue, merge_by, merge}
use Rattle.sheet.specs.Joints.{joints_of, number, count_at}
use Rattle.sheet.specs.Wiring.{Clean, Wired}
use Rattle.sheet.proofs.Held.{held_reads, joins_reads}
use Rattle.sheet.proofs.Merged.{merged, merged_kin}
use Rattle.sheet.proofs.JointRows.{count_joints}
use Rattle.sheet.proofs.RowOrder.{rules_2_7}
use Rattle.sheet.proofs.Rule4.{count_two, count_above}

module _ (h k : Bool → Point → Bool) where
  -- only what is said where b goes on in line counts
  joins_same : (a b : Wire) → (Follows a b → h a.vertical (tip high a) ≡ k a.vertical (tip high a)) → joins h a b ≡ joins k a b
  joins_same a b g = same_test
      (reads_as (λ t. (t.0, subst (λ x. T x → ⊥) (g t.0) t.1), λ t. (t.0, subst (λ x. T x → ⊥) (sym (g t.0)) t.1)) (joins_reads (λ d p. test (h d p)) a b))
      (joins_reads (λ d p. test (k d p)) a b)

  same_glue : (w : Wire) (ms : List Wire) → ((u : Wire) → u ∈ ms → Follows w u → h w.vertical (tip high w) ≡ k w.vertical (tip high w)) → glue h w ms ≡ glue k w ms
  unfolding glue
  same_glue w [] g = refl
  same_glue w (u ∷ us) g = ap (λ t. cond t (join w u ∷ us) (w ∷ u ∷ us)) (joins_same w u (g u (∈-head refl)))

  pub merge_cong : (ws : List Wire) → ((a b : Wire) → a ∈ ws → b ∈ ws → Follows a b → h a.vertical (tip high a) ≡ k a.vertical (tip high a)) → merge_by h ws ≡ merge_by k ws
  unfolding merge_by
  merge_cong [] f = refl
  merge_cong (w ∷ ws) f = ap (glue h w) (merge_cong ws (λ x y m n. f x y (∈-tail m) (∈-tail n))) ∙ same_glue w (merge_by k ws) (λ u m e.
      let c = merged_kin (merged (λ d p. test (k d p)) ws) low u m in f w c.wire (∈-head refl) (∈-tail c.among) (record { dir = e.dir ∙ c.dir; line = e.line ∙ c.line; end = e.end ∙ c.end }))

-- wires that go on in line become one just where the count is 2
pub merge_by_count : {ws : List Wire} {ps : List Point} → Clean ws ps → merge_by (λ d p. not (eqb (count_at p (joints_of (marks ws ps))) 2)) ws ≡ merge ws ps
unfolding merge
merge_by_count {ws} {ps} c = merge_cong (λ d p. not (eqb (count_at p (joints_of (marks ws ps))) 2)) (held_apart ws ps) ws (λ a b m n e.
    let r = ((rules_2_7 c.fits).0 c.order).0 in
    let s = count_joints (tip high a) (marks ws ps) in
    let h = held_reads ws ps a.vertical (tip high a) in
    same_test (reads_as (λ f. stable h (λ g. f (s ∙ count_two ps c.fits r a b m n e g)), λ x k. omega (arith, s, k, count_above ps c.fits r a b m n e x)) (not_reads (eqb_reads (count_at (tip high a) (joints_of (marks ws ps))) 2))) h)

-- "A point that falls from 3 or more ..": where wires are kept of which one goes on in line where another ends, 3 or more stood before
pub fell : (f : Wire → Bool) {ws : List Wire} {ps : List Point} → Wired ws ps → (a b : Wire) → a ∈ filter f ws → b ∈ filter f ws → Follows a b → 3 ≤ number (tip high a) (marks ws ps)
fell f {ws} {ps} l a b m n e = three (keep_old f ws m) (keep_old f ws n)
  where
    three : a ∈ ws → b ∈ ws → 3 ≤ number (tip high a) (marks ws ps)
    three m n = omega (arith, count_above ps l.clean.fits ((rules_2_7 l.clean.fits).0 l.clean.order).0 a b m n e (l.anchored a b m n e))
