-- The coordinates of document 01, whole numbers, and the numbers that rows hold: 6,000 more. The limits of both.
use Rattle.std.specs.Prelude.{ℕ, Bool, true, false, ◌&&◌, cond, leb, ℤ, pos, negsuc, nat_abs, ◌+ℤ◌, Option, Some, None}
use Rattle.std.proofs.Math.IntN.{sub_ℕ}

-- a whole number that is not negative; a negative one is taken as 0
abbrev pub to_ℕ : ℤ → ℕ
to_ℕ (pos n) = n
to_ℕ (negsuc n) = 0

-- the coordinate of a row's number
abbrev pub coord_of : ℕ → ℤ
coord_of n = sub_ℕ n 6000

-- the row's number of a coordinate
unfoldable pub biased : ℤ → ℕ
biased z = to_ℕ (z +ℤ pos 6000)

-- "Wire ends and pointer: each coordinate −6,000 to 6,000. Component position: −5,800 to 5,800."
-- a coordinate from -limit to limit
abbrev pub ranged : ℕ → ℤ → Bool
ranged limit z = leb (nat_abs z) limit

-- a coordinate as rows hold it, or none and 0
pub record Found : Type 0 where
  pub within : Bool
  pub at : ℕ

-- n, or none and 0
abbrev pub found : Bool → ℕ → Found
found b n = record { within = b; at = cond b n 0 }

-- a coordinate from -limit to limit, as a row's number
unfoldable pub biased_within : ℕ → ℤ → Found
biased_within limit z = found (ranged limit z) (biased z)

-- each case of what a call finds
abbrev pub found_in : Option ℕ → Found
found_in (Some n) = found true n
found_in None = found false 0

-- a component's position as rows hold it: -5,800 to 5,800
abbrev pub is_position : ℕ → Bool
is_position n = leb 200 n && leb n 11800

-- a size that is asked for: document 01's number, and the size
pub record SizeAnswer : Type 0 where
  pub reply : ℕ
  pub size : ℕ

abbrev pub size_is : ℕ → SizeAnswer
size_is n = record { reply = 0; size = n }

-- "3: size outside its range"
abbrev pub no_size : SizeAnswer
no_size = record { reply = 3; size = 0 }

-- "Pointer size: 0 to 1,000."
unfoldable pub size_of : ℤ → SizeAnswer
size_of (pos n) = cond (leb n 1000) (size_is n) no_size
size_of (negsuc n) = no_size

-- "For an answer that is an enum, a definition provides this paper's number and values for each of the enum's cases."
abbrev pub sized : Option ℕ → SizeAnswer
sized (Some n) = size_is n
sized None = no_size
