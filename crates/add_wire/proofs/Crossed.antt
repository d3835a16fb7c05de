-- Whether the new wire crosses another one at a mark: the test, by cases.
use Prim.Native.Nat.{◌≤◌}
use native.Mathlib.Omega.{arith}
use mathlib.Core.Path.{◌≡◌, sym, ap, ◌∙◌}
use mathlib.Core.List.{List, [], ◌∷◌}
use mathlib.Core.Bool.{Bool, true, false, ◌&&◌, beq}
use lib.ListN.{get_or}
use Rattle.lists.proofs.Tests.{both}
use Rattle.symbol.specs.declared.Point.{Point}
use Rattle.sheet.specs.declared.Wire.{Wire}
use Rattle.sheet.specs.Geometry.{along, inside, on}
use Rattle.sheet.specs.Split.{left, right}
use Rattle.sheet.proofs.Geometry.{along_point}
use Rattle.add_wire.specs.Marks.{crossing, is_crossed, cut_across}
use Rattle.add_wire.proofs.Marking.{on_true}

module _ (n : Wire) (marks : List Bool) (w : Wire) where
  pub crossed_in_line : beq w.vertical n.vertical ≡ true → false ≡ is_crossed n marks w
  unfolding is_crossed
  crossed_in_line e = rw e

  module _ {p : Point} {x y : Bool} (e : beq w.vertical n.vertical ≡ false) (q : p ≡ crossing n w) (f : x ≡ on p n) (g : y ≡ inside p w) where
    met_is : is_crossed n marks w ≡ ((x && y) && get_or marks w.line false)
    unfolding is_crossed
    met_is = rw (e, f, g, q)

    pub crossed_marked : (x && y) ≡ true → get_or marks w.line false ≡ is_crossed n marks w
    crossed_marked t = sym (met_is ∙ rw t)

    pub crossed_missed : (x && y) ≡ false → false ≡ is_crossed n marks w
    crossed_missed t = sym (met_is ∙ rw t)

    pub crossed_low : (x && y) ≡ true → w.line ≤ n.end
    crossed_low t = let o = on_true p n (sym f ∙ (both x y t).0) in omega (arith, o.to, ap (along n.vertical) q, along_point n.vertical n.line w.line)

  pub across_cut : is_crossed n marks w ≡ true → cut_across n marks w ≡ left (crossing n w) w ∷ right (crossing n w) w ∷ []
  unfolding cut_across
  across_cut e = rw e

  pub across_whole : is_crossed n marks w ≡ false → cut_across n marks w ≡ w ∷ []
  unfolding cut_across
  across_whole e = rw e
