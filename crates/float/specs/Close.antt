-- How close a drawn coordinate is to the exact sum, over whole numbers. The unit is 2 ^ -24: each number of a symbol is a whole number
-- of units, and so is a position.
use Rattle.std.specs.Prelude.{◌≡◌, ℕ, ◌+◌, ◌-◌, ◌*◌, ◌^◌, Bool, true, false, not, ◌&&◌, T, leb, ltb, eqb, ℤ, pos, negsuc, neg_ℤ, nat_abs, ◌+ℤ◌, ◌-ℤ◌, ◌*ℤ◌, Float}
use Rattle.std.specs.Float.{nan, inf, fin}
use Rattle.std.specs.Float.Ieee.{up, down}

-- how many units 1 is
abbrev pub unit : ℕ
unit = 2 ^ 24

-- n with the sign s
abbrev pub signed : Bool → ℕ → ℤ
signed false n = pos n
signed true n = neg_ℤ (pos n)

-- 2 ^ e is 2 ^ scale e units, for an e of -24 or more
abbrev pub scale : ℤ → ℕ
scale (pos k) = 24 + k
scale (negsuc k) = 23 - k

-- 2 ^ e is a whole number of units
abbrev pub whole_units : ℤ → Bool
whole_units (pos k) = true
whole_units (negsuc k) = ltb k 24

-- x is a number that a symbol may have: finite, of at most 24 binary digits, a whole number of units, and of magnitude at most 256
unfoldable pub tame : Float → Bool
tame nan = false
tame (inf s) = false
tame (fin s m e) = ltb m (2 ^ 24) && whole_units e && leb (m * 2 ^ scale e) (256 * unit)

-- the value of such an x, in units: of a tame x only, which `Close` therefore asks
unfoldable pub exact : Float → ℤ
exact nan = pos 0
exact (inf s) = pos 0
exact (fin s m e) = signed s (m * 2 ^ scale e)

-- the exact sum a·x + b·y + p, in units
abbrev pub sum_of : ℤ → ℤ → Float → Float → ℤ → ℤ
sum_of a b x y p = a *ℤ exact x +ℤ b *ℤ exact y +ℤ p *ℤ pos unit

-- r is at most 1/4,096 from E units. r is ±m · up e / down e, so with the denominators multiplied out:
-- |±m · up e · 2 ^ 24 - E · down e| · 4,096 ≤ 2 ^ 24 · down e
unfoldable pub near : Float → ℤ → Bool
near nan E = false
near (inf s) E = false
near (fin s m e) E = leb (nat_abs (signed s (m * up e * unit) -ℤ E *ℤ pos (down e)) * 4096) (unit * down e)

-- r is the whole number z: finite, and ±m · up e / down e is z, with the denominator multiplied out
unfoldable pub IsWhole : Float → ℤ → Type 0
IsWhole nan z = ⊥
IsWhole (inf s) z = ⊥
IsWhole (fin s m e) z = signed s (m * up e) ≡ z *ℤ pos (down e)

-- −0
unfoldable pub negative_zero : Float → Bool
negative_zero nan = false
negative_zero (inf s) = false
negative_zero (fin s m e) = s && eqb m 0

-- "Each drawn coordinate is at most 1/4,096 from the exact sum, whole inputs give the whole number, and none is a negative zero":
-- what is promised of a coordinate r that is drawn for the numbers x and y of a symbol, by the row (a, b) at the position p
pub record Close (a b : ℤ) (x y : Float) (p : ℤ) (r : Float) : Type 0 where
  pub x_tame : T (tame x)
  pub y_tame : T (tame y)
  pub at_most : T (near r (sum_of a b x y p))
  pub whole : (m n : ℤ) → exact x ≡ m *ℤ pos unit → exact y ≡ n *ℤ pos unit → IsWhole r (a *ℤ m +ℤ b *ℤ n +ℤ p)
  pub no_negative_zero : T (not (negative_zero r))

-- the same of a coordinate r that is a position p alone, as in the mark of a wire or a joint: the exact sum is p
pub record ClosePosition (p : ℤ) (r : Float) : Type 0 where
  pub at_most : T (near r (p *ℤ pos unit))
  pub whole : IsWhole r p
  pub no_negative_zero : T (not (negative_zero r))
