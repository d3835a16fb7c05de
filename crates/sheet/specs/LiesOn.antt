-- A wire that lies on wires which are there: "an existing wire", as users trace it (document 02, P14).
use Rattle.std.specs.Prelude.{ℕ, ◌≤◌, ◌<◌, not, List, ◌≡◌}
use Rattle.lists.specs.Lists.{◌∈◌}
use Rattle.sheet.specs.declared.Wire.{Wire}
use Rattle.sheet.specs.Geometry.{Side, tip, Inside}

-- w, of n's direction and line, reaches over the stretch from a to a + 1
pub record Covers (n w : Wire) (a : ℕ) : Type 0 where
  pub dir : w.vertical ≡ n.vertical
  pub line : w.line ≡ n.line
  pub from : w.start ≤ a
  pub to : a < w.end

-- wires cover n from its start to its end, and neither end lies strictly inside a wire of the other direction, on a bare crossing
pub record LiesOn (ws : List Wire) (n : Wire) : Type 0 where
  pub covered : (a : ℕ) → n.start ≤ a → a < n.end → (w : Wire) × w ∈ ws × Covers n w a
  pub off_crossings : (s : Side) (w : Wire) → w ∈ ws → w.vertical ≡ not n.vertical → Inside (tip s n) w → ⊥
