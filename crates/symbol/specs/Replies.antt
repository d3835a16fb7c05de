-- The refusals that what is asked alone decides, each sequence once: 4, 1, 2, 3 and 5 of "Order: 10, 9, 4, 1, 2, 3, 5, 6, 7, 8; the first
-- that applies." Each is the reply to what is asked, 0 where none of them applies.
use Rattle.std.specs.Prelude.{ℕ, Bool, ◌&&◌, cond, eqb, ℤ}
use Rattle.std.specs.Int.Signed.{le_z}
use Rattle.edge.specs.Coordinates.{ranged, is_position, size_of}
use Rattle.label.specs.declared.Label.{Label}
use Rattle.label.specs.Labels.{held_label}
use Rattle.symbol.specs.Symbols.{known_symbol}

-- "the first that applies": r, or s where r refuses nothing
abbrev pub or_else : ℕ → ℕ → ℕ
or_else r s = cond (eqb r 0) s r

-- the reply n, unless the test passes
abbrev pub unless : Bool → ℕ → ℕ
unless b n = cond b 0 n

-- the answer to what is not refused, or the refusal of the reply
abbrev pub granted : {A : Type 0} → ℕ → (ℕ → A) → A → A
granted n refusal answer = cond (eqb n 0) answer (refusal n)

-- "Wire ends and pointer: each coordinate −6,000 to 6,000. Component position: −5,800 to 5,800."

-- 1 "a coordinate outside its range", of a point
unfoldable pub point_reply : ℕ → ℤ → ℤ → ℕ
point_reply limit x y = unless (ranged limit x && ranged limit y) 1

-- 1, 2 "wire start greater than its end"
unfoldable pub wire_reply : ℤ → ℤ → ℤ → ℕ
wire_reply line start end = or_else (unless (ranged 6000 line && (ranged 6000 start && ranged 6000 end)) 1) (unless (le_z start end) 2)

-- 1, 3 "size outside its range"
unfoldable pub pointer_reply : ℤ → ℤ → ℤ → ℕ
pointer_reply x y size = or_else (point_reply 6000 x y) (size_of size).reply

-- 4 "unknown kind, or not one of the eight orientations", as a number of an orientation "a number outside 0 to 7" (document 02, P1), 1: by
-- whether kind and orientation are known, and whether the position is in its range
abbrev pub known_then_placed : Bool → Bool → ℕ
known_then_placed known placed = or_else (unless known 4) (unless placed 1)

-- of a position by its coordinates
unfoldable pub symbol_reply : ℕ → ℕ → ℤ → ℤ → ℕ
symbol_reply kind n x y = known_then_placed (known_symbol kind n) (ranged 5800 x && ranged 5800 y)

-- of a position as rows hold it
unfoldable pub held_reply : ℕ → ℕ → ℕ → ℕ → ℕ
held_reply kind n x y = known_then_placed (known_symbol kind n) (is_position x && is_position y)

-- 4, 1, 5 "label too long or with another byte"
unfoldable pub component_reply : ℕ → ℕ → ℤ → ℤ → Label → ℕ
component_reply kind n x y label = or_else (symbol_reply kind n x y) (held_label label).reply
