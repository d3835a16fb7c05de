-- The shapes of the three symbols, in the order of symbol.rs. A number is a whole one, or has the bits that a run of the Rust gives.
use Rattle.std.specs.Prelude.{ℕ, zero, suc, Bool, cond, List, [], ◌∷◌, ◌++◌, pos, neg_ℤ, Float}
use Rattle.std.specs.Bool.{beq}
use Rattle.std.specs.Float.{binary32}
use Rattle.std.specs.Float.Ieee.{of_bits, of_int}
use Rattle.draw.specs.declared.Vector2.{Vector2}
use Rattle.draw.specs.declared.Draw.{Draw}
use Rattle.draw.specs.declared.Draw.TheVariants.{Line, Circle}

-- a whole number
unfoldable pub whole : ℕ → Float
whole n = of_int binary32 (pos n)

-- the same with a minus
unfoldable pub minus : ℕ → Float
minus n = of_int binary32 (neg_ℤ (pos n))

-- "Constants built with a square root are taken as bits from a run of the Rust."
unfoldable pub bits : ℕ → Float
bits n = of_bits binary32 n

-- a point: "its points a record of two f32"
abbrev pub vector : Float → Float → Vector2
vector x y = record { x = x; y = y }

-- power::DRAW. 0x41e6f0ab is 1 / √3 · 50, and 0xc1e6f0ab the same with a minus
unfoldable pub power_draws : List Draw
power_draws =
    Line (vector (whole 0) (minus 100)) (vector (whole 0) (whole 0)) (whole 6)
    ∷ Line (vector (whole 0) (minus 100)) (vector (bits 0xc1e6f0ab) (minus 50)) (whole 6)
    ∷ Line (vector (whole 0) (minus 100)) (vector (bits 0x41e6f0ab) (minus 50)) (whole 6)
    ∷ []

-- contact::STATIC_DRAW
unfoldable pub contact_static : List Draw
contact_static =
    Line (vector (whole 0) (minus 100)) (vector (whole 0) (minus 60)) (whole 6)
    ∷ Line (vector (minus 50) (whole 60)) (vector (minus 50) (whole 100)) (whole 6)
    ∷ Line (vector (whole 50) (whole 60)) (vector (whole 50) (whole 100)) (whole 6)
    ∷ Circle (vector (whole 0) (minus 50)) (whole 10) (whole 6)
    ∷ Circle (vector (minus 50) (whole 50)) (whole 10) (whole 6)
    ∷ Line (vector (whole 50) (whole 50)) (vector (whole 50) (whole 50)) (whole 26)
    ∷ []

-- the last shape of contact::draw: from (0x404959c6, 0xc22207fa) to (0x420b3ff7, 0x425c2294), which is MOVING_CONTACT_LINE, with 0 for
-- each x where A and B are alike, and a minus before it where A alone is closed
unfoldable pub moving_contact : Bool → Bool → Draw
moving_contact a b =
    cond (beq a b)
    (Line (vector (whole 0) (bits 0xc22207fa)) (vector (whole 0) (bits 0x425c2294)) (whole 6))
    (cond a
    (Line (vector (bits 0xc04959c6) (bits 0xc22207fa)) (vector (bits 0xc20b3ff7) (bits 0x425c2294)) (whole 6))
    (Line (vector (bits 0x404959c6) (bits 0xc22207fa)) (vector (bits 0x420b3ff7) (bits 0x425c2294)) (whole 6)))

-- coil::STATIC_DRAW. 0x43075af8 is 1 / √2 · 50 + 100
unfoldable pub coil_static : List Draw
coil_static =
    Line (vector (whole 0) (minus 100)) (vector (whole 0) (minus 50)) (whole 6)
    ∷ Line (vector (whole 0) (whole 50)) (vector (whole 0) (whole 100)) (whole 6)
    ∷ Circle (vector (whole 0) (whole 0)) (whole 50) (whole 6)
    ∷ Line (vector (minus 25) (whole 100)) (vector (whole 25) (whole 100)) (whole 6)
    ∷ Line (vector (minus 25) (whole 100)) (vector (whole 0) (bits 0x43075af8)) (whole 6)
    ∷ Line (vector (whole 25) (whole 100)) (vector (whole 0) (bits 0x43075af8)) (whole 6)
    ∷ []

-- the last shape of coil::draw
unfoldable pub inner_circle : Bool → Draw
inner_circle on = cond on (Circle (vector (whole 0) (whole 0)) (whole 25) (whole 6)) (Circle (vector (whole 0) (whole 0)) (whole 50) (whole 6))

-- the seven of a contact
abbrev pub contact_draws : Bool → Bool → List Draw
contact_draws a b = contact_static ++ (moving_contact a b ∷ [])

-- the seven of a coil
abbrev pub coil_draws : Bool → List Draw
coil_draws on = coil_static ++ (inner_circle on ∷ [])

-- "Kind: 0 Power, 1 Contact, 2 Coil." "a contact's last depends on A and B, a coil's on its state": a is a coil's state. Another kind has
-- no shape
unfoldable pub draws_of : ℕ → Bool → Bool → List Draw
draws_of zero a b = power_draws
draws_of (suc zero) a b = contact_draws a b
draws_of (suc (suc zero)) a b = coil_draws a
draws_of (suc (suc (suc n))) a b = []
