-- The edits of a plan, as document 01 has them under "Edits".
use Rattle.std.specs.Prelude.{ℕ, zero, suc, Bool, false, ◌&&◌, cond, not, List, [], ◌∷◌, map, length}
use Rattle.lists.specs.Lists.{insert}
use Rattle.std.specs.List.{list_any, filter}
use Rattle.orientation.specs.Orientations.{right_of, mirror_of, can_turn}
use Rattle.symbol.specs.declared.Point.{Point}
use Rattle.symbol.specs.Symbols.{touches_of}
use Rattle.sheet.specs.declared.Wire.{Wire}
use Rattle.sheet.specs.Split.{split_all}
use Rattle.sheet.specs.Merge.{merge}
use Rattle.sheet.specs.Run.{draw_wire}
use Rattle.sheet.specs.Boxes.{square}
use Rattle.sheet.specs.Edits.{meets_wire}
use Rattle.four.specs.Plans.{Part, Plan, box, pads, pads_of, touches, ahead, reoriented}

-- "Wire."
unfoldable pub wire : Wire → Plan → Plan
wire n s = record { wires = draw_wire n s.wires (pads_of s.parts); parts = s.parts }

-- "Place. Each pad splits each wire that it lies strictly inside, then counts one."
unfoldable pub place_one : Part → Plan → Plan
place_one c s = record { wires = split_all (pads c) s.wires; parts = insert ahead c s.parts }

-- without the wires that f meets and the components that g meets; two wire ends left in line, without a pad, become one wire
unfoldable pub remove : (Wire → Bool) → (Part → Bool) → Plan → Plan
remove f g s =
    let ws = filter (λ w. not (f w)) s.wires in
    let cs = filter (λ c. not (g c)) s.parts in
    record { wires = merge ws (pads_of cs); parts = cs }

-- the square of half-width size about the pointer meets the component's box
abbrev pub meets_part : Point → ℕ → Part → Bool
meets_part p size c = touches_of (square p size) (box c)

-- "Delete. Remove all wires and components whose line or box meets the square of half-width size about the pointer, edges counted."
unfoldable pub delete : Point → ℕ → Plan → Plan
delete p size s = remove (meets_wire p size) (meets_part p size) s

-- what placing gives, and how many were not placed
pub record Placed : Type 0 where
  pub plan : Plan
  pub lost : ℕ

-- how many were hit, and how many of these are gone afterwards
pub record Outcome : Type 0 where
  pub plan : Plan
  pub hit : ℕ
  pub lost : ℕ

abbrev pub gone : Placed → Placed
gone o = record { plan = o.plan; lost = suc o.lost }

-- each is placed in turn; "one that would touch a component is lost"
unfoldable pub place_all : List Part → Plan → Placed
place_all [] s = record { plan = s; lost = zero }
place_all (c ∷ cs) s = cond (list_any (touches c) s.parts) (gone (place_all cs s)) (place_all cs (place_one c s))

-- "Take out every contact that the square meets, merge as in delete, then place each again, altered, by rising (y, x) of position."
unfoldable pub turn : (Part → Bool) → (Part → Part) → Plan → Outcome
turn g alter s =
    let o = place_all (map alter (filter g s.parts)) (remove (λ w. false) g s) in
    record { plan = o.plan; hit = length (filter g s.parts); lost = o.lost }

-- a contact that the square meets
abbrev pub hits : Point → ℕ → Part → Bool
hits p size c = can_turn c.kind && meets_part p size c

-- "Turn right: (−c, −d, a, b)."
unfoldable pub turn_right : Point → ℕ → Plan → Outcome
turn_right p size s = turn (hits p size) (reoriented right_of) s

-- "Mirror: (−a, −b, c, d)."
unfoldable pub mirror : Point → ℕ → Plan → Outcome
mirror p size s = turn (hits p size) (reoriented mirror_of) s
