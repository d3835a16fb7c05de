-- What a definition by cases is, once its test is known.
use mathlib.Core.Path.{◌≡◌}
use mathlib.Core.List.{[], ◌∷◌}
use mathlib.Core.Bool.{true, false, beq}
use borrow.Author.Tests.{eq-eqb, ne_eqb}
use lib.Dec.{leb, ltb}
use Rattle.symbol.specs.declared.Point.{Point}
use Rattle.sheet.specs.declared.Wire.{Wire}
use Rattle.sheet.specs.Geometry.{inside, first}
use Rattle.sheet.specs.Split.{split_one, left, right}

pub split_inside : (p : Point) (w : Wire) → inside p w ≡ true → split_one p w ≡ left p w ∷ right p w ∷ []
unfolding split_one
split_inside p w e = rw e

pub split_outside : (p : Point) (w : Wire) → inside p w ≡ false → split_one p w ≡ w ∷ []
unfolding split_one
split_outside p w e = rw e

-- row order, by the first thing that differs
pub first_start : (a b : Wire) → beq a.vertical b.vertical ≡ true → a.line ≡ b.line → first a b ≡ leb a.start b.start
unfolding first
first_start a b e f = rw (e, eq-eqb a.line b.line f)

pub first_line : (a b : Wire) → beq a.vertical b.vertical ≡ true → (a.line ≡ b.line → ⊥) → first a b ≡ ltb a.line b.line
unfolding first
first_line a b e f = rw (e, ne_eqb a.line b.line f)
