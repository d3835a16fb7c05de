-- Signed numbers that are handed on come out of their bits as they were.
use mathlib.Core.Path.{◌≡◌}
use lib.IntN.{ℤ}
use mir.Syntax.{w32}
use mir.Val.{SFits, to_z, of_z}
use mir.Facts.{to_z-of_z}

-- z as a callee gets it
abbrev pub bits : ℤ → ℤ
bits z = to_z w32 (of_z w32 z)

module _ {A : Type 0} where
  pub handed_two : (f : ℤ → ℤ → A) (x y : ℤ) → SFits w32 x → SFits w32 y → f (bits x) (bits y) ≡ f x y
  handed_two f x y p q = λ i. f (to_z-of_z {w = w32} {z = x} p i) (to_z-of_z {w = w32} {z = y} q i)

  pub handed_three : (f : ℤ → ℤ → ℤ → A) (x y z : ℤ) → SFits w32 x → SFits w32 y → SFits w32 z → f (bits x) (bits y) (bits z) ≡ f x y z
  handed_three f x y z p q r = λ i. f (to_z-of_z {w = w32} {z = x} p i) (to_z-of_z {w = w32} {z = y} q i) (to_z-of_z {w = w32} {z = z} r i)
