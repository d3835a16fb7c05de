-- The laws of boxes: touching is sharing a point, and goes both ways; a position lies in its own box; a mirror leaves a contact's box.
use mathlib.Core.Path.{◌≡◌, sym, subst}
use Prim.Native.Nat.{ℕ, zero, suc, ◌≤◌, ◌<◌, min, max}
use native.Mathlib.Omega.{arith}
use mathlib.Core.Bool.{Bool, ◌&&◌}
use lib.Dec.{T, leb}
use lib.IntN.{pos, negsuc}
use Rattle.lists.proofs.Tests.{Reads, reads_as, and_reads, test, holds, passes, same_test, leb_reads}
use Rattle.orientation.specs.Orientations.{eighth, turn_by, mirrors}
use Rattle.orientation.proofs.Eight.{below_8, test_8}
use Rattle.symbol.specs.Symbols.{Offset, applied, low_at, high_at, box_of, bounds_at, touches_of}
use Rattle.symbol.specs.Steps.{reaching_of}
use Rattle.symbol.specs.Boxes.{Shares}
use Rattle.symbol.specs.declared.Point.{Point}
use Rattle.symbol.specs.declared.Bounds.{Bounds}
use Rattle.symbol.proofs.Sides.{put, astride, below, above, sided}

-- ---- the tests, read
pub shares_reads : (a b : Bounds) → Reads (Shares a b) (touches_of a b)
shares_reads a b =
    reads_as (λ t. record { x = t.0; x' = t.1.0; y = t.1.1.0; y' = t.1.1.1 }, λ h. (h.x, (h.x', (h.y, h.y'))))
    (and_reads (leb_reads a.low.x b.high.x) (and_reads (leb_reads b.low.x a.high.x) (and_reads (leb_reads a.low.y b.high.y) (leb_reads b.low.y a.high.y))))

-- p lies in b, edges counted
abbrev pub within : Point → Bounds → Bool
within p b = leb b.low.x p.x && (leb p.x b.high.x && (leb b.low.y p.y && leb p.y b.high.y))

pub record In (p : Point) (b : Bounds) : Type 0 where
  pub x_low : b.low.x ≤ p.x
  pub x_high : p.x ≤ b.high.x
  pub y_low : b.low.y ≤ p.y
  pub y_high : p.y ≤ b.high.y

pub within_reads : (p : Point) (b : Bounds) → Reads (In p b) (within p b)
within_reads p b =
    reads_as (λ t. record { x_low = t.0; x_high = t.1.0; y_low = t.1.1.0; y_high = t.1.1.1 }, λ h. (h.x_low, (h.x_high, (h.y_low, h.y_high))))
    (and_reads (leb_reads b.low.x p.x) (and_reads (leb_reads p.x b.high.x) (and_reads (leb_reads b.low.y p.y) (leb_reads p.y b.high.y))))

-- ---- touching
pub shares_mirror : {a b : Bounds} → Shares a b → Shares b a
shares_mirror h = record { x = h.x'; x' = h.x; y = h.y'; y' = h.y }

pub symmetric : (a b : Bounds) → touches_of a b ≡ touches_of b a
symmetric a b = same_test (shares_reads a b) (reads_as (shares_mirror, shares_mirror) (shares_reads b a))

-- a box whose low corner is not above its high one
pub record Box (b : Bounds) : Type 0 where
  pub wide : b.low.x ≤ b.high.x
  pub tall : b.low.y ≤ b.high.y

pub is_box : (p q : Point) → Box (box_of p q)
is_box p q = record { wide = omega arith; tall = omega arith }

-- two boxes touch where they share a point
pub touches_reads : (a b : Bounds) → Box a → Box b → Reads ((p : Point) × In p a × In p b) (touches_of a b)
touches_reads a b f g = reads_as (into, out) (shares_reads a b)
  where
    into : Shares a b → (p : Point) × In p a × In p b
    into h =
        let p : Point = record { x = max a.low.x b.low.x; y = max a.low.y b.low.y } in
        (p, record { x_low = omega arith; x_high = omega arith; y_low = omega arith; y_high = omega arith }, record { x_low = omega arith; x_high = omega arith; y_low = omega arith; y_high = omega arith })

    out : (p : Point) × In p a × In p b → Shares a b
    out t = let h = t.1 in let k = t.2 in record { x = omega arith; x' = omega arith; y = omega arith; y' = omega arith }

-- so two boxes with a common point touch
pub common_touches : (a b : Bounds) (p : Point) → T (within p a) → T (within p b) → T (touches_of a b)
common_touches a b p s t =
    let h = holds (within_reads p a) s in
    let k = holds (within_reads p b) t in
    passes (shares_reads a b) (record { x = omega arith; x' = omega arith; y = omega arith; y' = omega arith })

-- ---- a component's box, by how far it reaches from the position

-- the corners of a symbol, turned by the orientation numbered n
abbrev low : ℕ → ℕ → Offset
low k n = applied (eighth n) (low_at k)

abbrev high : ℕ → ℕ → Offset
high k n = applied (eighth n) (high_at k)

-- they lie on both sides of the position
corners_astride : ℕ → ℕ → Bool
corners_astride k n = astride (low k n).dx (high k n).dx && astride (low k n).dy (high k n).dy

all_astride : (k n : ℕ) → n < 8 → T (corners_astride k n)
unfolding corners_astride
all_astride zero = test_8 (corners_astride 0) tt
all_astride (suc zero) = test_8 (corners_astride 1) tt
all_astride (suc (suc k)) = test_8 (corners_astride 2) tt

-- the box that reaches as far as they do
abbrev pub reached : ℕ → ℕ → ℕ → ℕ → Bounds
reached k n x y = reaching_of x y (below (low k n).dx (high k n).dx) (below (low k n).dy (high k n).dy) (above (low k n).dx (high k n).dx) (above (low k n).dy (high k n).dy)

pub box_reaches : (k n x y : ℕ) → n < 8 → bounds_at k (eighth n) x y ≡ reached k n x y
unfolding corners_astride
box_reaches k n x y h =
    let a = holds (and_reads (test (astride (low k n).dx (high k n).dx)) (test (astride (low k n).dy (high k n).dy))) (all_astride k n h) in
    let u = sided x (low k n).dx (high k n).dx a.0 in
    let v = sided y (low k n).dy (high k n).dy a.1 in
    λ i. record { low = record { x = u.0 i; y = v.0 i }; high = record { x = u.1 i; y = v.1 i } }

-- so a position lies in its own box
pub own_box : (k n x y : ℕ) → n < 8 → T (within (record { x = x; y = y }) (bounds_at k (eighth n) x y))
own_box k n x y h =
    subst (λ b. T (within (record { x = x; y = y }) b)) (sym (box_reaches k n x y h))
    (passes (within_reads (record { x = x; y = y }) (reached k n x y)) (record { x_low = omega arith; x_high = omega arith; y_low = omega arith; y_high = omega arith }))

-- ---- a mirror leaves a contact's box
swapped : (a b c d : ℕ) → box_of (record { x = b; y = c }) (record { x = a; y = d }) ≡ box_of (record { x = a; y = c }) (record { x = b; y = d })
swapped a b c d =
    let e : min b a ≡ min a b = omega arith in
    let f : max b a ≡ max a b = omega arith in
    λ i. record { low = record { x = e i; y = min c d }; high = record { x = f i; y = max c d } }

abbrev Kept : ℕ → ℕ → ℕ → Type 0
Kept x y n = bounds_at 1 (eighth (turn_by mirrors n)) x y ≡ bounds_at 1 (eighth n) x y

pub mirror_box : (n x y : ℕ) → n < 8 → bounds_at 1 (eighth (turn_by mirrors n)) x y ≡ bounds_at 1 (eighth n) x y
mirror_box n x y h =
    let l : ℕ = put x (negsuc 49) in
    let r : ℕ = put x (pos 50) in
    let m : ℕ = put x (negsuc 99) in
    let p : ℕ = put x (pos 100) in
    let u : ℕ = put y (negsuc 99) in
    let d : ℕ = put y (pos 100) in
    let v : ℕ = put y (negsuc 49) in
    let w : ℕ = put y (pos 50) in
    below_8 (Kept x y)
    (swapped m p v w, (swapped l r d u, (swapped p m w v, (swapped r l u d, (swapped m p w v, (swapped r l d u, (swapped p m v w, (swapped l r u d, tt)))))))) n h
