-- Below the calls, but for `Fits`: the rules in the form that the edits' laws use, on rows in order. `Rules` words them as document 01 does
-- ("A drawing is lawful when"); that both say the same is proved.
use Rattle.std.specs.Prelude.{◌≤◌, ◌<◌, Bool, not, List, ◌≡◌, ◌⊎◌}
use Rattle.sheet.specs.declared.Wire.{Wire}
use Rattle.symbol.specs.declared.Point.{Point}
use Rattle.lists.specs.Lists.{◌∈◌, Rows}
use Rattle.sheet.specs.Geometry.{high, tip, marks, EndAt, Inside, Follows, Before}

-- a wire of the direction has an end at the point
pub record Ended (ws : List Wire) (d : Bool) (p : Point) : Type 0 where
  pub wire : Wire
  pub among : wire ∈ ws
  pub dir : wire.vertical ≡ d
  pub here : EndAt p wire

-- what keeps two wires of the direction apart at the point: an end of a wire of the other direction, or a pad
abbrev pub HeldApart : List Wire → List Point → Bool → Point → Type 0
HeldApart ws ps d p = Ended ws (not d) p ⊎ (p ∈ ps)

-- the wire meets the limits, with start < end
pub record Fits (w : Wire) : Type 0 where
  pub line : w.line ≤ 12000
  pub long : w.start < w.end
  pub end : w.end ≤ 12000

-- each wire of the list meets the limits
abbrev pub AllFit : List Wire → Type 0
AllFit ws = (w : Wire) → w ∈ ws → Fits w

-- rules 1, 2, 3 and 7, for wires
pub record Clean (ws : List Wire) (ps : List Point) : Type 0 where
  pub fits : AllFit ws
  -- no shared length and rising rows at once
  pub order : Rows Before ws
  pub clear : (p : Point) → p ∈ marks ws ps → (w : Wire) → w ∈ ws → Inside p w → ⊥

-- and rule 4
pub record Wired (ws : List Wire) (ps : List Point) : Type 0 where
  pub clean : Clean ws ps
  pub anchored : (a b : Wire) → a ∈ ws → b ∈ ws → Follows a b → HeldApart ws ps a.vertical (tip high a)
