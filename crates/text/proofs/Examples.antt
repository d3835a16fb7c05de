-- Numbers as they are written.
use mathlib.Core.Path.{◌≡◌, refl}
use mathlib.Core.List.{[], ◌∷◌}
use lib.IntN.{pos, negsuc}
use Rattle.text.specs.Text.{digits_in, decimal_of, signed_of}

-- 0, 10, 384, 6000, -6000
numerals : (decimal_of 0 ≡ 48 ∷ []) × (decimal_of 10 ≡ 49 ∷ 48 ∷ []) × (decimal_of 384 ≡ 51 ∷ 56 ∷ 52 ∷ []) × (signed_of (pos 6000) ≡ 54 ∷ 48 ∷ 48 ∷ 48 ∷ []) × (signed_of (negsuc 5999) ≡ 45 ∷ 54 ∷ 48 ∷ 48 ∷ 48 ∷ [])
unfolding digits_in decimal_of signed_of
numerals = (refl, refl, refl, refl, refl)
