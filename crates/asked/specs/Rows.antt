-- Below the calls: a number that is asked for, as rows hold it, or its refusal.
use Rattle.std.specs.Prelude.{ℕ, ℤ, cond, eqb, Result, Ok, Err}
use Rattle.edge.specs.Coordinates.{ranged, biased, to_ℕ, size_of}
use Rattle.refusal.specs.declared.Refusal.{Refusal}
use Rattle.refusal.specs.declared.Refusal.TheVariants.{CoordinateOutside, SizeOutside}

-- a coordinate from -limit to limit
abbrev pub row_of : ℕ → ℤ → Result ℕ Refusal
row_of limit z = cond (ranged limit z) (Ok (biased z)) (Err CoordinateOutside)

-- "Pointer size: 0 to 1,000."
abbrev pub size_row : ℤ → Result ℕ Refusal
size_row z = cond (eqb (size_of z).reply 0) (Ok (to_ℕ z)) (Err SizeOutside)
