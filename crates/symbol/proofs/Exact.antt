-- No number of a component's point is cut off: its coordinate is the sum of document 01, over the whole numbers. And every point lies in
-- 50 to 11,950, so that none is a row of zeros, and each is a place for a wire's end.
use mathlib.Core.Path.{◌≡◌, subst}
use Prim.Native.Nat.{ℕ, zero, suc, ◌+◌, ◌≤◌, ◌<◌}
use native.Mathlib.Omega.{arith}
use mathlib.Core.Bool.{Bool, ◌&&◌}
use mathlib.Core.List.Memᴰ.{of_map as ∈-map}
use lib.Dec.{T, leb, leb→le}
use lib.IntN.{ℤ, pos, negsuc, nat_abs, ◌+ℤ◌, ◌*ℤ◌}
use lib.ListN.{length}
use Rattle.lists.specs.Lists.{◌∈◌}
use Rattle.lists.proofs.Tests.{both_l, both_r}
use Rattle.lists.proofs.Lists.{in_cons, in_one}
use Rattle.orientation.specs.Orientations.{eighth}
use Rattle.orientation.specs.Rows.{Row, plus_x, minus_x, plus_y, minus_y}
use Rattle.orientation.proofs.Eight.{known_rows}
use Rattle.orientation.proofs.Turns.{eighth_known}
use Rattle.orientation.specs.declared.RotMirror.{RotMirror}
use Rattle.edge.specs.Coordinates.{coord_of, biased}
use Rattle.edge.proofs.Whole.{row_plus_left, row_minus_left, row_plus_right, row_minus_right, size_neg, size_added, added, pos_sub, neg_sub_suc}
use Rattle.edge.proofs.Coordinates.{back}
use Rattle.symbol.specs.Symbols.{Offset, applied, moved_of, pads_at, pad_points, low_at, high_at, bounds_at, Positioned}
use Rattle.symbol.specs.declared.Point.{Point}

-- a row gives no greater number than those it is given
size_row : (u v : ℤ) (k : ℕ) → nat_abs u ≤ k → nat_abs v ≤ k → {a b : ℤ} → Row a b → nat_abs (a *ℤ u +ℤ b *ℤ v) ≤ k
size_row u v k f g plus_x = rw (row_plus_left u v) f
size_row u v k f g minus_x = rw (row_minus_left u v, size_neg u) f
size_row u v k f g plus_y = rw (row_plus_right u v) g
size_row u v k f g minus_y = rw (row_minus_right u v, size_neg v) g

-- ---- the points of a symbol are at most 150 from the position in each coordinate
abbrev pub near : Offset → Bool
near q = leb (nat_abs q.dx) 150 && leb (nat_abs q.dy) 150

pub pads_near : (k : ℕ) (q : Offset) → q ∈ pads_at k → T (near q)
pads_near zero q m = in_one (λ q. T (near q)) tt m
pads_near (suc zero) q m = in_cons (λ q. T (near q)) tt (λ q m. in_cons (λ q. T (near q)) tt (λ q m. in_one (λ q. T (near q)) tt m) m) m
pads_near (suc (suc k)) q m = in_one (λ q. T (near q)) tt m

pub high_near : (k : ℕ) → T (near (high_at k))
high_near zero = tt
high_near (suc zero) = tt
high_near (suc (suc k)) = tt

module _ (n : ℕ) (h : n < 8) (q : Offset) (t : T (near q)) where
  in_x : nat_abs q.dx ≤ 150
  in_x = leb→le (nat_abs q.dx) 150 (both_l (leb (nat_abs q.dx) 150) (leb (nat_abs q.dy) 150) t)

  in_y : nat_abs q.dy ≤ 150
  in_y = leb→le (nat_abs q.dy) 150 (both_r (leb (nat_abs q.dx) 150) (leb (nat_abs q.dy) 150) t)

  -- and so they are turned
  turned_x : nat_abs (applied (eighth n) q).dx ≤ 150
  turned_x = size_row q.dx q.dy 150 in_x in_y (known_rows (eighth n) (eighth_known n h)).0

  turned_y : nat_abs (applied (eighth n) q).dy ≤ 150
  turned_y = size_row q.dx q.dy 150 in_x in_y (known_rows (eighth n) (eighth_known n h)).1

-- ---- the sums of document 01
pub record Exact (o : RotMirror) (x y : ℕ) (q : Offset) : Type 0 where
  pub in_x : coord_of (moved_of o x y q).x ≡ coord_of x +ℤ (o.0 *ℤ q.dx +ℤ o.1 *ℤ q.dy)
  pub in_y : coord_of (moved_of o x y q).y ≡ coord_of y +ℤ (o.2 *ℤ q.dx +ℤ o.3 *ℤ q.dy)

put_exact : (p : ℕ) (z : ℤ) → 200 ≤ p → p ≤ 11800 → nat_abs z ≤ 150 → coord_of (biased (coord_of p +ℤ z)) ≡ coord_of p +ℤ z
put_exact p z f g h = back (coord_of p +ℤ z) (size_added p z f g (omega arith))

-- ---- a point of a component at (x, y) is at most 150 from it, and so lies in 50 to 11,950
pub record Reached (x y : ℕ) (p : Point) : Type 0 where
  pub in_x : (x ≤ p.x + 150) × (p.x ≤ x + 150)
  pub in_y : (y ≤ p.y + 150) × (p.y ≤ y + 150)

pub record Ranged (p : Point) : Type 0 where
  pub in_x : (50 ≤ p.x) × (p.x ≤ 11950)
  pub in_y : (50 ≤ p.y) × (p.y ≤ 11950)

reached_ranged : {n x y : ℕ} {p : Point} → Positioned n x y → Reached x y p → Ranged p
reached_ranged s r = record { in_x = (omega arith, omega arith); in_y = (omega arith, omega arith) }

put_reach : (p : ℕ) (z : ℤ) → 200 ≤ p → nat_abs z ≤ 150 → (p ≤ biased (coord_of p +ℤ z) + 150) × (biased (coord_of p +ℤ z) ≤ p + 150)
put_reach p (pos n) f h = let e = added p n 0 (pos n) (pos_sub n) in (omega arith, omega arith)
put_reach p (negsuc n) f h = let e = added p 0 (suc n) (negsuc n) (neg_sub_suc n) in (omega arith, omega arith)

module _ (n x y : ℕ) (s : Positioned n x y) where
  pub exact : (q : Offset) → T (near q) → Exact (eighth n) x y q
  exact q t = record {
    in_x = put_exact x (applied (eighth n) q).dx s.left s.right (turned_x n s.turned q t);
    in_y = put_exact y (applied (eighth n) q).dy s.top s.bottom (turned_y n s.turned q t);
  }

  reached : (q : Offset) → T (near q) → Reached x y (moved_of (eighth n) x y q)
  reached q t = record {
    in_x = put_reach x (applied (eighth n) q).dx s.left (turned_x n s.turned q t);
    in_y = put_reach y (applied (eighth n) q).dy s.top (turned_y n s.turned q t);
  }

  -- ---- the pads and the corners of every kind
  module _ (k : ℕ) where
    pub pads_exact : (q : Offset) → q ∈ pads_at k → Exact (eighth n) x y q
    pads_exact q m = exact q (pads_near k q m)

    pub corners_exact : Exact (eighth n) x y (low_at k) × Exact (eighth n) x y (high_at k)
    corners_exact = (exact (low_at k) tt, exact (high_at k) (high_near k))

    pub pads_reached : (p : Point) → p ∈ pad_points k (eighth n) x y → Reached x y p
    pads_reached p m = let q = ∈-map (moved_of (eighth n) x y) (pads_at k) m in subst (Reached x y) q.2 (reached q.0 (pads_near k q.0 q.1))

    pub pads_ranged : (p : Point) → p ∈ pad_points k (eighth n) x y → Ranged p
    pads_ranged p m = reached_ranged s (pads_reached p m)

    pub box_reached : Reached x y (bounds_at k (eighth n) x y).low × Reached x y (bounds_at k (eighth n) x y).high
    box_reached =
        let l = reached (low_at k) tt in
        let h = reached (high_at k) (high_near k) in
        (record { in_x = (omega arith, omega arith); in_y = (omega arith, omega arith) }, record { in_x = (omega arith, omega arith); in_y = (omega arith, omega arith) })

    pub box_ranged : Ranged (bounds_at k (eighth n) x y).low × Ranged (bounds_at k (eighth n) x y).high
    box_ranged = (reached_ranged s box_reached.0, reached_ranged s box_reached.1)

pub pads_few : (k : ℕ) (o : RotMirror) (x y : ℕ) → length (pad_points k o x y) ≤ 3
pads_few zero o x y = omega arith
pads_few (suc zero) o x y = omega arith
pads_few (suc (suc k)) o x y = omega arith
