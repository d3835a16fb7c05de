-- A table with room or without: how cuts follow one another, and that the contracts leave one answer.
use Rattle.std.proofs.Common.{arith, ℕ, ◌+◌, ◌≤◌, ◌<◌, ◌≡◌, ◌∙◌, sym, ap, subst, List, [], ◌∷◌, ◌++◌, length, take, drop, get_or}
use Rattle.std.specs.Prelude.{Result, Ok, Err, cond, ltb}
use borrow.Author.Tests.{lt-ltb, le-ltb}
use lib.ListN.{take-append-drop}
use Rattle.lists.proofs.Passes.{take_more}
use Rattle.symbol.specs.declared.Point.{Point}
use Rattle.table.specs.declared.NoRoom.{NoRoom}
use Rattle.lists.proofs.Tables.{holds_list}
use Rattle.sheet.specs.declared.Wire.{Wire}
use Rattle.sheet.specs.Tables.{Wires}
use Rattle.sheet.specs.Split.{split_at, split_all}
use Rattle.sheet.specs.Drawings.{wire_table, wire_rows}
use Rattle.sheet.proofs.Split.{split_all_no_shorter, split_all_append}
use Rattle.wires.specs.Tables.{Tabled, Grows, Splits}

-- ---- points one after another

-- r is what t is split at the points, whatever list t holds, and has room where t has
pub record Cut (ps : List Point) (t r : Wires) : Type 0 where
  pub room : t.count ≤ 512 → r.count ≤ 512
  pub so : (ws : List Wire) → Tabled ws t → Tabled (split_all ps ws) r

pub cut_none : (t : Wires) → Cut [] t t
unfolding split_all
cut_none t = record { room = λ k. k; so = λ ws h. h }

module _ (points : List Point) {i : ℕ} {t r : Wires} (d : Point) (c : Cut (take i points) t r) (l : i < length points) where
  -- at one point more
  one_more : (ws : List Wire) → Tabled ws t → split_at (get_or points i d) (wire_rows r) ≡ split_all (take (i + 1) points) ws
  unfolding split_all
  one_more ws h =
      ap (split_at (get_or points i d)) (holds_list (c.so ws h)) ∙ sym (split_all_append (take i points) (get_or points i d ∷ []) ws)
      ∙ ap (λ (ps : List Point). split_all ps ws) (sym (take_more points i d l))

  pub cut_next : {s : Wires} → Tabled (split_at (get_or points i d) (wire_rows r)) s → Cut (take (i + 1) points) t s
  cut_next {s} k = record { room = λ _. omega (arith, k.room, k.count_is); so = λ ws h. subst (λ (l : List Wire). Tabled l s) (one_more ws h) k }

  -- with no room for a list there is none for one that is split further
  pub cut_full : 512 < length (split_at (get_or points i d) (wire_rows r)) → (ws : List Wire) → Tabled ws t → 512 < length (split_all points ws)
  cut_full k ws h =
      let more = split_all_no_shorter (drop (i + 1) points) (split_all (take (i + 1) points) ws) in
      let whole : split_all (drop (i + 1) points) (split_all (take (i + 1) points) ws) ≡ split_all points ws =
      sym (split_all_append (take (i + 1) points) (drop (i + 1) points) ws) ∙ ap (λ (ps : List Point). split_all ps ws) (take-append-drop (i + 1) points) in
      omega (arith, more, ap length whole, ap length (one_more ws h))

-- ---- one answer

pub tabled_is : {ws : List Wire} {t : Wires} → Tabled ws t → t ≡ wire_table ws
tabled_is h = λ i. record { rows = h.rows_are i; count = h.count_is i }

-- the one answer for a list
abbrev pub grown : List Wire → Result Wires NoRoom
grown ws = cond (ltb 512 (length ws)) (Err record {}) (Ok (wire_table ws))

pub grows_is : (ws : List Wire) (g : Result Wires NoRoom) → Grows ws g → g ≡ grown ws
grows_is ws (Ok t) h = rw (le-ltb 512 (length ws) h.room) (ap (λ (t : Wires). Ok t) (tabled_is h))
grows_is ws (Err e) h = rw (lt-ltb 512 (length ws) h) (λ i. Err e)
