-- What is drawn of a symbol has its coordinates within 1/4,096 of the exact sums, whole where those are whole, and never -0; radius and width are the symbol's.
use Prim.Native.Nat.{ℕ, zero, suc, ◌≤◌}
use native.Mathlib.Omega.{arith}
use mathlib.Core.Bool.{Bool, true, false, ◌&&◌}
use lib.Dec.{T}
use lib.IntN.{ℤ, nat_abs}
use lib.Ieee.{of_int, of_bits}
use Rattle.lists.specs.Lists.{◌∈◌}
use Rattle.std.specs.List.{list_all}
use Rattle.lists.proofs.Tests.{test, holds, both_l, both_r}
use Rattle.lists.proofs.Lists.{all_reads}
use Rattle.orientation.specs.Orientations.{known}
use Rattle.orientation.specs.declared.RotMirror.{RotMirror}
use Rattle.orientation.proofs.Eight.{known_rows}
use Rattle.float.specs.Close.{tame}
use Rattle.float.proofs.Drawn.{drawn_close, whole_close}
use Rattle.draw.specs.Symbols.{whole, minus, bits, power_draws, contact_static, moving_contact, coil_static, inner_circle, draws_of}
use Rattle.draw.specs.Transforms.{float_position, moved_point, transform_of}
use Rattle.draw.specs.Bound.{ClosePoint, CloseDraw, line, circle, MarkPoint}
use Rattle.draw.specs.declared.Vector2.{Vector2}
use Rattle.draw.specs.declared.Draw.{Draw}
use Rattle.draw.specs.declared.Draw.TheVariants.{Line, Circle}

-- ---- each number of a symbol is one that the bound holds for: antt computes it

abbrev tame_point : Vector2 → Bool
tame_point p = tame p.x && tame p.y

abbrev tame_draw : Draw → Bool
tame_draw (Line p q width) = tame_point p && tame_point q
tame_draw (Circle p radius width) = tame_point p

draws_tame : (kind : ℕ) (a b : Bool) → T (list_all tame_draw (draws_of kind a b))
unfolding tame draws_of power_draws contact_static moving_contact coil_static inner_circle whole minus bits of_int of_bits
draws_tame zero a b = tt
draws_tame (suc zero) true true = tt
draws_tame (suc zero) true false = tt
draws_tame (suc zero) false true = tt
draws_tame (suc zero) false false = tt
draws_tame (suc (suc zero)) true b = tt
draws_tame (suc (suc zero)) false b = tt
draws_tame (suc (suc (suc n))) a b = tt

-- ---- a shape, turned by one of the eight and moved to a position

module _ (o : RotMirror) (x y : ℤ) (t : T (known o)) (hx : nat_abs x ≤ 5800) (hy : nat_abs y ≤ 5800) where
  point_close : (p : Vector2) → T (tame_point p) → ClosePoint o x y p (moved_point o (float_position x y) p)
  point_close p h =
      let tx = both_l (tame p.x) (tame p.y) h in
      let ty = both_r (tame p.x) (tame p.y) h in
      let r = known_rows o t in
      record { in_x = drawn_close p.x p.y x r.0 tx ty (omega arith); in_y = drawn_close p.x p.y y r.1 tx ty (omega arith) }

  draw_close : (d : Draw) → T (tame_draw d) → CloseDraw o x y d (transform_of o (float_position x y) d)
  draw_close (Line p q width) h = line (point_close p (both_l (tame_point p) (tame_point q) h)) (point_close q (both_r (tame_point p) (tame_point q) h))
  draw_close (Circle p radius width) h = circle (point_close p h)

  pub transform_close : (kind : ℕ) (a b : Bool) (d : Draw) → d ∈ draws_of kind a b → CloseDraw o x y d (transform_of o (float_position x y) d)
  transform_close kind a b d m = draw_close d (holds (all_reads (λ e. test (tame_draw e)) (draws_of kind a b)) (draws_tame kind a b) d m)

-- ---- the point of a wire or a joint is its position

pub mark_point : (x y : ℤ) → nat_abs x ≤ 6000 → nat_abs y ≤ 6000 → MarkPoint x y (float_position x y)
mark_point x y hx hy = record { in_x = whole_close x hx; in_y = whole_close y hy }
