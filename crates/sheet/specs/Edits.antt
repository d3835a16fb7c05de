-- The edits of a sheet, as document 01 has them under "Edits".
use Rattle.std.specs.Prelude.{ℕ, zero, suc, Bool, false, ◌&&◌, cond, not, List, [], ◌∷◌, map, length}
use Rattle.lists.specs.Lists.{insert}
use Rattle.std.specs.List.{list_any, filter}
use Rattle.symbol.specs.declared.Point.{Point}
use Rattle.symbol.specs.Symbols.{touches_of}
use Rattle.sheet.specs.declared.Wire.{Wire}
use Rattle.sheet.specs.declared.Component.{Component}
use Rattle.sheet.specs.Split.{split_all}
use Rattle.sheet.specs.Merge.{merge}
use Rattle.sheet.specs.Run.{draw_wire}
use Rattle.sheet.specs.Boxes.{square, line}
use Rattle.sheet.specs.Parts.{box, pads, pads_of, touches, ahead, is_contact, turned_right, mirrored}
use Rattle.sheet.specs.Drawings.{Sheet}

-- "Wire.": a new wire among the wires and pads
unfoldable pub wire : Wire → Sheet → Sheet
wire n s = record { wires = draw_wire n s.wires (pads_of s.parts); parts = s.parts }

-- "Place. Each pad splits each wire that it lies strictly inside, then counts one."
unfoldable pub place_one : Component → Sheet → Sheet
place_one c s = record { wires = split_all (pads c) s.wires; parts = insert ahead c s.parts }

-- without the wires that f meets and the components that g meets; "A point that falls from 3 or more to exactly two wire ends in line,
-- without a pad, becomes one wire. A corner does not." That 3 or more stood there is not tested: where wires of a lawful drawing are
-- left that go on in line, it always holds (proofs/MergeCount: fell).
unfoldable pub remove : (Wire → Bool) → (Component → Bool) → Sheet → Sheet
remove f g s =
    let ws = filter (λ w. not (f w)) s.wires in
    let cs = filter (λ c. not (g c)) s.parts in
    record { wires = merge ws (pads_of cs); parts = cs }

-- the square of half-width size about the pointer meets the wire's line
unfoldable pub meets_wire : Point → ℕ → Wire → Bool
meets_wire p size w = touches_of (square p size) (line w)

-- and the component's box
unfoldable pub meets_part : Point → ℕ → Component → Bool
meets_part p size c = touches_of (square p size) (box c)

-- "Delete. Remove all wires and components whose line or box meets the square of half-width size about the pointer, edges counted."
unfoldable pub delete : Point → ℕ → Sheet → Sheet
delete p size s = remove (meets_wire p size) (meets_part p size) s

-- ---- "Turn right, mirror."

-- what placing gives, and how many were not placed
pub record Placed : Type 0 where
  pub sheet : Sheet
  pub lost : ℕ

-- how many were hit, and how many of these are gone afterwards
pub record Outcome : Type 0 where
  pub sheet : Sheet
  pub hit : ℕ
  pub lost : ℕ

-- one more is lost
abbrev pub gone : Placed → Placed
gone o = record { sheet = o.sheet; lost = suc o.lost }

-- each is placed in turn; "one that would touch a component is lost"
unfoldable pub place_all : List Component → Sheet → Placed
place_all [] s = record { sheet = s; lost = zero }
place_all (c ∷ cs) s = cond (list_any (touches c) s.parts) (gone (place_all cs s)) (place_all cs (place_one c s))

-- "Take out every contact that the square meets, merge as in delete, then place each again, altered, by rising (y, x) of position."
unfoldable pub turn : (Component → Bool) → (Component → Component) → Sheet → Outcome
turn g alter s =
    let o = place_all (map alter (filter g s.parts)) (remove (λ w. false) g s) in
    record { sheet = o.sheet; hit = length (filter g s.parts); lost = o.lost }

-- a contact that the square meets
unfoldable pub hits : Point → ℕ → Component → Bool
hits p size c = is_contact c && meets_part p size c

-- turn right
unfoldable pub turn_right : Point → ℕ → Sheet → Outcome
turn_right p size s = turn (hits p size) turned_right s

-- mirror
unfoldable pub mirror : Point → ℕ → Sheet → Outcome
mirror p size s = turn (hits p size) mirrored s
