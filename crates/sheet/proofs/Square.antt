-- The square about the pointer, over coordinates: that it is cut off at row number 0 loses no point.
use mathlib.Core.Path.{◌≡◌, ◌∙◌}
use mathlib.Core.Logic.{◌↔◌}
use Prim.Native.Nat.{ℕ, ◌+◌, ◌-◌, ◌≤◌}
use native.Mathlib.Omega.{arith}
use mathlib.Core.Bool.{Bool, true, false}
use lib.IntN.{nat_abs, ◌+ℤ◌, ◌-ℤ◌, sub_ℕ}
use Rattle.lists.proofs.Tests.{Reads, reads_as}
use Rattle.edge.specs.Coordinates.{coord_of}
use Rattle.edge.proofs.Whole.{sub_pos, sub_neg, by_order, same_diff, add_sub, neg_sub, size_sub}
use Rattle.symbol.specs.declared.Point.{Point}
use Rattle.symbol.specs.declared.Bounds.{Bounds}
use Rattle.symbol.specs.Symbols.{touches_of}
use Rattle.symbol.proofs.Boxes.{In, Box, touches_reads}
use Rattle.sheet.specs.declared.Wire.{Wire}
use Rattle.sheet.specs.declared.Component.{Component}
use Rattle.sheet.specs.Boxes.{square, line}
use Rattle.sheet.specs.Parts.{box}
use Rattle.sheet.specs.Edits.{meets_wire, meets_part}
use Rattle.sheet.proofs.Geometry.{On}

-- "the square of half-width size about the pointer, edges counted": the point q is at most size from the pointer p in x and in y
pub record Around (p : Point) (size : ℕ) (q : Point) : Type 0 where
  pub x : nat_abs (coord_of q.x -ℤ coord_of p.x) ≤ size
  pub y : nat_abs (coord_of q.y -ℤ coord_of p.y) ≤ size

-- ---- one coordinate
module _ (p q size : ℕ) where
  apart : coord_of q -ℤ coord_of p ≡ sub_ℕ q p
  apart = (λ i. coord_of q +ℤ neg_sub p 6000 i) ∙ add_sub q 6000 6000 p ∙ same_diff (q + 6000) (6000 + p) q p (omega arith)

  into : p - size ≤ q → q ≤ p + size → nat_abs (coord_of q -ℤ coord_of p) ≤ size
  into f g = rw apart (size_sub q p size (omega arith) (omega arith))

  out : nat_abs (coord_of q -ℤ coord_of p) ≤ size → (p - size ≤ q) × (q ≤ p + size)
  out h =
      by_order ((p - size ≤ q) × (q ≤ p + size)) q p
      (λ l. let k = rw (apart ∙ sub_neg q p l) at h in (omega arith, omega arith))
      (λ l. let k = rw (apart ∙ sub_pos q p l) at h in (omega arith, omega arith))

-- ---- the laws

-- a point lies in the square exactly when it is around the pointer
pub square_in : (p : Point) (size : ℕ) (q : Point) → In q (square p size) ↔ Around p size q
square_in p size q = (
  λ h. record { x = into p.x q.x size h.x_low h.x_high; y = into p.y q.y size h.y_low h.y_high },
  λ h. let a = out p.x q.x size h.x in let b = out p.y q.y size h.y in record { x_low = a.0; x_high = a.1; y_low = b.0; y_high = b.1 },
)

-- the square meets a box exactly when a point of the box is around the pointer
pub square_meets : (p : Point) (size : ℕ) (b : Bounds) → Box b → Reads ((q : Point) × Around p size q × In q b) (touches_of (square p size) b)
square_meets p size b f =
    reads_as (λ t. (t.0, (square_in p size t.0).0 t.1, t.2), λ t. (t.0, (square_in p size t.0).1 t.1, t.2))
    (touches_reads (square p size) b (record { wide = omega arith; tall = omega arith }) f)

-- so of what the edits ask: a component's box, and a wire's line
pub meets_part_reads : (p : Point) (size : ℕ) (c : Component) → Reads ((q : Point) × Around p size q × In q (box c)) (meets_part p size c)
unfolding meets_part box
meets_part_reads p size c = square_meets p size (box c) (record { wide = omega arith; tall = omega arith })

abbrev wire_of : ℕ → ℕ → ℕ → Bool → Wire
wire_of l s e d = record { vertical = d; line = l; start = s; end = e }

line_in : (l s e : ℕ) (d : Bool) (q : Point) → In q (line (wire_of l s e d)) ↔ On q (wire_of l s e d)
line_in l s e true q = (λ h. record { line = omega arith; from = h.y_low; to = h.y_high }, λ h. record { x_low = omega arith; x_high = omega arith; y_low = h.from; y_high = h.to })
line_in l s e false q = (λ h. record { line = omega arith; from = h.x_low; to = h.x_high }, λ h. record { x_low = h.from; x_high = h.to; y_low = omega arith; y_high = omega arith })

line_box : (l s e : ℕ) (d : Bool) → s ≤ e → Box (line (wire_of l s e d))
line_box l s e true h = record { wide = omega arith; tall = h }
line_box l s e false h = record { wide = h; tall = omega arith }

pub meets_wire_reads : (p : Point) (size : ℕ) (w : Wire) → w.start ≤ w.end → Reads ((q : Point) × Around p size q × On q w) (meets_wire p size w)
unfolding meets_wire
meets_wire_reads p size w h =
    let f = line_in w.line w.start w.end w.vertical in
    reads_as (λ t. (t.0, t.1, (f t.0).0 t.2), λ t. (t.0, t.1, (f t.0).1 t.2))
    (square_meets p size (line w) (line_box w.line w.start w.end w.vertical h))
