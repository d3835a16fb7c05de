-- Below the calls, but for `room_reply` and `quiet`: what an edit of a sheet makes of its tables.
use Rattle.std.specs.Prelude.{ℕ, ◌≤◌, List, [], leb, length}
use Rattle.symbol.specs.declared.Point.{Point}
use Rattle.symbol.specs.Replies.{or_else, unless, granted}
use Rattle.sheet.specs.declared.Component.{Component}
use Rattle.sheet.specs.Drawings.{Sheet, wire_table, component_table}
use Rattle.sheet.specs.Edits.{Outcome, place_all}
use Rattle.std.specs.Prelude.{Result}
use Rattle.refusal.specs.declared.Refusal.{Refusal}
use Rattle.refusal.specs.Numbers.{answered}
use Rattle.sheet.specs.Tables.{Wires, Components}
use Rattle.edits.specs.declared.Made.{Made as Tables}

-- what an edit makes: the reply, and after reply 0 the new tables, and how many contacts were hit and lost
pub record Made : Type 0 where
  pub reply : ℕ
  pub wires : Wires
  pub parts : Components
  pub hit : ℕ
  pub lost : ℕ

-- "Reply 7 is to mean components only"; "11, more than 512 wires after the edit, straight after 7; where both apply, 7." (document 02, P4);
-- 0 where the drawing after the edit has room for both
unfoldable pub room_reply : Sheet → ℕ
room_reply s = or_else (unless (leb (length s.parts) 128) 7) (unless (leb (length s.wires) 512) 11)

-- "Hit and lost are 0 for wire, place and delete."
abbrev pub quiet : Sheet → Outcome
quiet s = record { sheet = s; hit = 0; lost = 0 }

-- the new tables
abbrev pub tables : Outcome → Made
tables o = record { reply = 0; wires = wire_table o.sheet.wires; parts = component_table o.sheet.parts; hit = o.hit; lost = o.lost }

-- the reply that there is no room, and nothing
abbrev pub no_room : ℕ → Made
no_room n = record { reply = n; wires = wire_table []; parts = component_table []; hit = 0; lost = 0 }

-- "For an answer that is an enum, a definition provides this paper's number and values for each of the enum's cases."
abbrev pub told : Result Tables Refusal → Made
told r = answered (λ t. record { reply = 0; wires = t.wires; parts = t.parts; hit = t.hit; lost = t.lost }) no_room r

-- what the edit makes, if there is room
unfoldable pub made : Outcome → Made
made o = granted (room_reply o.sheet) no_room (tables o)

-- each placed in turn, as after a hit
abbrev pub placed_again : List Component → Sheet → Outcome
placed_again cs s = record { sheet = (place_all cs s).sheet; hit = length cs; lost = (place_all cs s).lost }

-- ---- what an edit counts on

-- a pointer and its size within their ranges
pub record Pointed (p : Point) (n : ℕ) : Type 0 where
  pub x : p.x ≤ 12000
  pub y : p.y ≤ 12000
  pub size : n ≤ 1000
