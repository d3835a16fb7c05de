-- "the square of half-width size about the pointer, edges counted", and what it meets. Two boxes share a point: `Shares`.
use Rattle.std.specs.Prelude.{ℕ, ◌+◌, ◌-◌}
use Rattle.symbol.specs.declared.Point.{Point}
use Rattle.symbol.specs.declared.Bounds.{Bounds}
pub use Rattle.symbol.specs.Boxes.{Shares}
use Rattle.sheet.specs.declared.Wire.{Wire}
use Rattle.sheet.specs.Geometry.{low, high, tip}

-- the square, cut off at row number 0: over coordinates this loses no point (proofs/Square: square-in, square-meets)
abbrev pub square : Point → ℕ → Bounds
square p size = record {
  low = record { x = p.x - size; y = p.y - size };
  high = record { x = p.x + size; y = p.y + size };
}

-- a wire's line, as a box
abbrev pub line : Wire → Bounds
line w = record { low = tip low w; high = tip high w }
