-- Points are told by their coordinates; the row order of points.
use Prim.Native.Nat.{ℕ, ◌<◌}
use lib.Dec.{ltb, eqb}
use mathlib.Core.Bool.{Bool, true, false, cond, ◌&&◌, ◌||◌}
use Rattle.std.proofs.Common.{Some, Less, Equal, Greater}
use Rattle.std.specs.Ordering.{partial_lt, partial_ordering_then, nat_cmp}
use mathlib.Core.List.Memᴰ.{cast as ∈-cast}
use mathlib.Core.List.{List}
use mathlib.Core.Path.{◌≡◌, refl, sym, ap}
use mathlib.Core.Logic.{⊎_elim, ◌⊎◌, inl, inr, ◌↔◌}
use native.Mathlib.Omega.{arith}
use Rattle.symbol.specs.declared.Point.{Point}
use Rattle.lists.specs.Lists.{◌∈◌, Rows}
use Rattle.std.specs.List.{list_any}
use Rattle.lists.proofs.Adjacent.{Adjacent}
use Rattle.sheet.specs.Points.{same, Rise, lower, level, rises}
use Rattle.lists.proofs.Tests.{Reads, reads_as, and_reads, or_reads, eqb_reads, ltb_reads, compare}
use Rattle.lists.proofs.Lists.{any_reads}
use Rattle.lists.proofs.Order.{rows_chain, chain_rows}

pub point_path : {p q : Point} → p.x ≡ q.x → p.y ≡ q.y → p ≡ q
point_path e f = λ i. record { x = e i; y = f i }

pub same_reads : (p q : Point) → Reads (p ≡ q) (same p q)
unfolding same
same_reads p q = reads_as (λ t. point_path t.0 t.1, λ e. (ap (λ (r : Point). r.x) e, ap (λ (r : Point). r.y) e)) (and_reads (eqb_reads p.x q.x) (eqb_reads p.y q.y))

pub member_reads : (p : Point) (ps : List Point) → Reads (p ∈ ps) (list_any (same p) ps)
member_reads p ps = reads_as (λ t. ∈-cast t.2 t.1, λ m. (p, m, refl)) (any_reads (same_reads p) ps)

pub rises_reads : (p q : Point) → Reads (Rise p q) (rises p q)
unfolding rises
rises_reads p q = reads_as (into, out) (or_reads (ltb_reads p.y q.y) (and_reads (eqb_reads p.y q.y) (ltb_reads p.x q.x)))
  where
    into : (p.y < q.y) ⊎ ((p.y ≡ q.y) × (p.x < q.x)) → Rise p q
    into (inl a) = lower a
    into (inr t) = level t.0 t.1

    out : Rise p q → (p.y < q.y) ⊎ ((p.y ≡ q.y) × (p.x < q.x))
    out (lower a) = inl a
    out (level a b) = inr (a, b)

pub rise_trans : {p q r : Point} → Rise p q → Rise q r → Rise p r
rise_trans (lower a) (lower b) = lower (omega arith)
rise_trans (lower a) (level b c) = lower (omega arith)
rise_trans (level a b) (lower c) = lower (omega arith)
rise_trans (level a b) (level c d) = level (omega arith) (omega arith)

pub rise_asym : {p q : Point} → Rise p q → Rise q p → ⊥
rise_asym (lower a) (lower b) = omega arith
rise_asym (lower a) (level b c) = omega arith
rise_asym (level a b) (lower c) = omega arith
rise_asym (level a b) (level c d) = omega arith

pub rise_self : {p : Point} → Rise p p → ⊥
rise_self r = rise_asym r r

-- two points are one, or one rises to the other
pub rise_or : (p q : Point) → Rise p q ⊎ ((p ≡ q) ⊎ Rise q p)
rise_or p q = ⊎_elim
    (λ (a : p.y < q.y). inl (lower a))
    (⊎_elim
    (λ (e : p.y ≡ q.y). ⊎_elim (λ (a : p.x < q.x). inl (level e a)) (⊎_elim (λ (f : p.x ≡ q.x). inr (inl (point_path f e))) (λ (a : q.x < p.x). inr (inr (level (sym e) a)))) (compare p.x q.x))
    (λ (a : q.y < p.y). inr (inr (lower a))))
    (compare p.y q.y)

pub rise_back : (p q : Point) → (Rise p q → ⊥) → (p ≡ q → ⊥) → Rise q p
rise_back p q f n = ⊎_elim (λ (r : Rise p q). absurd (f r)) (⊎_elim (λ (e : p ≡ q). absurd (n e)) (λ (r : Rise q p). r)) (rise_or p q)

-- rows that rise each to the next rise each to every later one
pub rise_chain : {A : Type 0} (f : A → Point) {xs : List A} → Rows (λ b c. Rise (f b) (f c)) xs ↔ Adjacent (λ b c. Rise (f b) (f c)) xs
rise_chain f = (rows_chain, chain_rows (λ a b c. rise_trans))

-- compared as pairs, by y and then by x
pub rises_by_pairs : (p q : Point) → partial_lt {X = ℕ × ℕ} (λ a b. partial_ordering_then (Some (nat_cmp a.0 b.0)) (Some (nat_cmp a.1 b.1))) (p.y, p.x) (q.y, q.x) ≡ rises p q
unfolding rises
rises_by_pairs p q = go (ltb p.y q.y) (eqb p.y q.y) (ltb p.x q.x) (eqb p.x q.x)
  where
    go : (a b c d : Bool) → partial_lt {X = ℕ × ℕ} (λ x y. partial_ordering_then (Some (cond a Less (cond b Equal Greater))) (Some (cond c Less (cond d Equal Greater)))) (p.y, p.x) (q.y, q.x) ≡ (a || (b && c))
    go true b c d = refl
    go false true true d = refl
    go false true false true = refl
    go false true false false = refl
    go false false c d = refl
