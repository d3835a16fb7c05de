-- Two rows whose boxes share a point, if there are such.
use Rattle.std.specs.Prelude.{ℕ, Bool, true, false, Option, Some, None}

pub record Touching : Type 0 where
  pub found : Bool
  pub first : ℕ
  pub second : ℕ

-- no such pair
abbrev pub none : Touching
none = record { found = false; first = 0; second = 0 }

-- what code answers with, as this paper's record
abbrev pub as_touching : Option (ℕ × ℕ) → Touching
as_touching (Some p) = record { found = true; first = p.0; second = p.1 }
as_touching None = none
