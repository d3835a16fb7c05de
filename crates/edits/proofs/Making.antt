-- What an edit makes, with room and without.
use Prim.Native.Nat.{ℕ, ◌≤◌, ◌<◌}
use native.Mathlib.Omega.{arith}
use mathlib.Core.Bool.{Bool, true, false}
use mathlib.Core.Path.{◌≡◌, refl, sym, ap, ◌∙◌}
use lib.ListN.{length}
use borrow.Author.Tests.{le-leb, lt-leb}
use Rattle.lists.proofs.Tests.{Reads, pass, fail, choose, eqb_reads, leb_reads}
use Rattle.symbol.specs.Replies.{or_else, unless, granted}
use Rattle.sheet.specs.Tables.{Wires, Components}
use Rattle.sheet.specs.Drawings.{Sheet}
use Rattle.sheet.proofs.Wiring.{Roomy}
use Rattle.sheet.specs.Edits.{Outcome}
use Rattle.wires.specs.Tables.{Tabled}
use Rattle.parts.specs.Tables.{TabledParts}
use Rattle.edits.specs.Making.{Made, room_reply, tables, no_room, made}

-- the reply, with what it says of the sheet
pub data Room (s : Sheet) : ℕ → Type 0 where
  enough : Roomy s → Room s 0
  parts_over : 128 < length s.parts → Room s 7
  wires_over : length s.parts ≤ 128 → 512 < length s.wires → Room s 11

pub room_told : (s : Sheet) → Room s (room_reply s)
unfolding room_reply
room_told s = go (leb_reads (length s.parts) 128) (leb_reads (length s.wires) 512)
  where
    go : {a b : Bool} → Reads (length s.parts ≤ 128) a → Reads (length s.wires ≤ 512) b → Room s (or_else (unless a 7) (unless b 11))
    go (pass p) (pass w) = enough (record { wires = w; parts = p })
    go (pass p) (fail f) = wires_over p (omega arith)
    go (fail f) b = parts_over (omega arith)

-- and the other way round
pub room_is : {s : Sheet} {n : ℕ} → Room s n → room_reply s ≡ n
unfolding room_reply
room_is (enough r) = rw (le-leb _ _ r.parts, le-leb _ _ r.wires)
room_is (parts_over p) = rw (lt-leb _ _ p)
room_is (wires_over p w) = rw (le-leb _ _ p, lt-leb _ _ w)

pub room_zero : {s : Sheet} → room_reply s ≡ 0 → Roomy s
room_zero {s} z = go (room_told s) z
  where
    go : {n : ℕ} → Room s n → n ≡ 0 → Roomy s
    go (enough r) z = r
    go (parts_over p) z = absurd (omega arith)
    go (wires_over p w) z = absurd (omega arith)

pub made_by : (o : Outcome) {n : ℕ} → Room o.sheet n → made o ≡ granted n no_room (tables o)
unfolding made
made_by o r = ap (λ n. granted n no_room (tables o)) (room_is r)

pub made_reply : (o : Outcome) → (made o).reply ≡ room_reply o.sheet
unfolding made
made_reply o = choose (eqb_reads (room_reply o.sheet) 0) (λ (x : Made). x.reply ≡ room_reply o.sheet) (λ z. sym z) (λ f. refl)

pub full_parts : (o : Outcome) → 128 < length o.sheet.parts → no_room 7 ≡ made o
full_parts o h = sym (made_by o (parts_over h))

pub full_wires : (o : Outcome) → 512 < length o.sheet.wires → length o.sheet.parts ≤ 128 → no_room 11 ≡ made o
full_wires o k h = sym (made_by o (wires_over h k))

-- wires that have room, and components that have
pub answer_room : (o : Outcome) {ws : Wires} {cs : Components} {h l : ℕ} → Tabled o.sheet.wires ws → TabledParts o.sheet.parts cs → h ≡ o.hit → l ≡ o.lost → ◌≡◌ {A = Made} (record { reply = 0; wires = ws; parts = cs; hit = h; lost = l }) (made o)
answer_room o t p f k =
    (λ i. record { reply = 0; wires = record { rows = t.rows_are i; count = t.count_is i }; parts = record { rows = p.rows_are i; count = p.count_is i }; hit = f i; lost = k i })
    ∙ sym (made_by o (enough (record { wires = t.room; parts = p.room })))
