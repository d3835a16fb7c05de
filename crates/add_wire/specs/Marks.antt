-- Below the calls: "Cut the run at each joint still standing": joints on the new wire as marks along it, and wires cut at the marks.
use Rattle.std.specs.Prelude.{ℕ, zero, suc, ◌≤◌, ◌<◌, ◌≡◌, List, [], ◌∷◌, ◌++◌, Bool, false, ◌&&◌, cond, not, eqb, ltb, length, get_or}
use Rattle.std.specs.Bool.{beq}
use Rattle.symbol.specs.declared.Point.{Point}
use Rattle.std.specs.List.{list_any}
use Rattle.sheet.specs.declared.Wire.{Wire}
use Rattle.sheet.specs.Geometry.{along, point, on, inside}
use Rattle.sheet.specs.Split.{up_to, from_on, left, right}
use Rattle.sheet.specs.Tables.{Wires}
use Rattle.wires.specs.Tables.{Tabled}

-- a place along the direction is marked exactly when a point of the list lies there
pub record Marked (d : Bool) (qs : List Point) (marks : List Bool) : Type 0 where
  pub size : length marks ≡ 12001
  pub each : (a : ℕ) → a ≤ 12000 → get_or marks a false ≡ list_any (λ q. eqb (along d q) a) qs

-- with the places of further points marked, whatever was marked before
pub record More (d : Bool) (marks : List Bool) (qs : List Point) (next : List Bool) : Type 0 where
  pub so : (ps : List Point) → Marked d ps marks → Marked d (ps ++ qs) next

-- r is the table t with the wires put behind its rows, whatever list t holds
pub record Adds (vs : List Wire) (t r : Wires) : Type 0 where
  pub so : (ws : List Wire) → Tabled ws t → Tabled (ws ++ vs) r

-- t has no room for the wires behind its rows
pub record Over (vs : List Wire) (t : Wires) : Type 0 where
  pub so : (ws : List Wire) → Tabled ws t → 512 < length (ws ++ vs)

-- ---- the run

-- the place lies strictly inside the wire
abbrev pub strictly_in : ℕ → Wire → Bool
strictly_in a w = ltb w.start a && ltb a w.end

-- the wire, cut at each place strictly inside it that m marks, of k places from a on
unfoldable pub cut_from : (ℕ → Bool) → ℕ → ℕ → Wire → List Wire
cut_from m a zero w = w ∷ []
cut_from m a (suc k) w = cond (m a && strictly_in a w) (up_to a w ∷ cut_from m (suc a) k (from_on a w)) (cut_from m (suc a) k w)

-- ---- wires across

-- where n's line crosses the line of a wire of the other direction
abbrev pub crossing : Wire → Wire → Point
crossing n w = point n.vertical n.line w.line

-- w lies across n and has a mark of n strictly inside
unfoldable pub is_crossed : Wire → List Bool → Wire → Bool
is_crossed n marks w = not (beq w.vertical n.vertical) && ((on (crossing n w) n && inside (crossing n w) w) && get_or marks w.line false)

-- and is split there
unfoldable pub cut_across : Wire → List Bool → Wire → List Wire
cut_across n marks w = cond (is_crossed n marks w) (left (crossing n w) w ∷ right (crossing n w) w ∷ []) (w ∷ [])
