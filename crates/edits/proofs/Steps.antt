-- Each edit's tables, from those of its steps.
use Prim.Native.Nat.{ℕ, ◌+◌, ◌≤◌, ◌<◌}
use native.Mathlib.Omega.{arith}
use mathlib.Core.Bool.{Bool, true, false, not}
use mathlib.Core.List.{List, map}
use mathlib.Core.Path.{◌≡◌, refl, sym, ap, ◌∙◌, subst}
use lib.ListN.{length, take, length-map}
use Rattle.lists.specs.Tables.{Holds}
use Rattle.lists.specs.Lists.{◌∈◌, insert}
use Rattle.std.specs.List.{filter}
use Rattle.lists.proofs.Tests.{test, not_reads}
use Rattle.lists.proofs.Lists.{keep_all, keep_old}
use Rattle.lists.proofs.Appends.{length_parts, length_insert}
use Rattle.lists.proofs.Tables.{holds_as, holds_list, holds_self, holds_count}
use Rattle.symbol.specs.declared.Point.{Point}
use Rattle.sheet.specs.declared.Wire.{Wire}
use Rattle.sheet.specs.declared.Component.{Component}
use Rattle.sheet.specs.Tables.{Wires}
use Rattle.sheet.specs.Tables.{Components}
use Rattle.sheet.specs.Merge.{merge}
use Rattle.sheet.specs.Run.{lay_wire}
use Rattle.sheet.specs.Parts.{PartFits, pads, pads_of, ahead}
use Rattle.sheet.specs.Drawings.{Sheet, wire_rows, component_rows}
use Rattle.sheet.specs.Edits.{wire, place_one, remove, place_all, turn, hits}
use Rattle.sheet.proofs.Run.{drawn_idle, drawn_added}
use Rattle.std.specs.Prelude.{Result, Ok, Err}
use Rattle.table.specs.declared.NoRoom.{NoRoom}
use Rattle.wires.specs.Tables.{Tabled, Grows, Splits}
use Rattle.parts.specs.Tables.{TabledParts, PartsFit}
use Rattle.joints.specs.Tables.{sheet_of, Sound}
use Rattle.edits.specs.Making.{Made, quiet, no_room, made, placed_again}
use Rattle.edits.proofs.Making.{full_parts}

-- ---- wire

module _ (n : Wire) {ws : Wires} {cs : Components} (s : Sound ws cs) where
  pub idle_wires : n.start ≡ n.end → Tabled (wire n (sheet_of ws cs)).wires ws
  unfolding wire
  idle_wires e = holds_as (sym (drawn_idle n e (wire_rows ws) (pads_of (component_rows cs)))) s.wires

  pub drawn_wires : (n.start ≡ n.end → ⊥) → {us : List Wire} {qs ps : List Point} (g : Result Wires NoRoom) → us ≡ wire_rows ws → qs ≡ ps → ps ≡ pads_of (component_rows cs) → Grows (lay_wire n us qs) g → Grows (wire n (sheet_of ws cs)).wires g
  unfolding wire
  drawn_wires f g u q e h = subst (λ (l : List Wire). Grows l g) ((λ i. lay_wire n (u i) ((q ∙ e) i)) ∙ sym (drawn_added n f (wire_rows ws) (pads_of (component_rows cs)))) h

  pub same_parts : TabledParts (wire n (sheet_of ws cs)).parts cs
  unfolding wire
  same_parts = s.parts

-- ---- place

module _ (c : Component) {ws : Wires} {cs : Components} (s : Sound ws cs) where
  -- the way out of `place` where there is no room for the component
  pub place_no_parts : 128 ≤ cs.count → {m : Made} → m ≡ no_room 7 → m ≡ made (quiet (place_one c (sheet_of ws cs)))
  unfolding place_one
  place_no_parts h e = e ∙ full_parts _ (omega (arith, length_insert ahead c (component_rows cs), s.parts.count_is))

  pub placed_wires : {h : Result Wires NoRoom} → Splits (pads c) ws h → Grows (place_one c (sheet_of ws cs)).wires h
  unfolding place_one
  placed_wires k = k.so (wire_rows ws) s.wires

  pub placed_parts : {t : Components} → TabledParts (insert ahead c (component_rows cs)) t → TabledParts (place_one c (sheet_of ws cs)).parts t
  unfolding place_one
  placed_parts h = h

-- ---- delete

-- of rows in use: how many there are, and that they fit
pub few_of : {A : Type 0} {n : ℕ} {z : A} {xs rows u : List A} {count : ℕ} → Holds n z xs rows count → u ≡ take count rows → length u ≤ n
few_of h e = omega (arith, ap length (e ∙ holds_list h), h.room)

pub fits_of : (f : Component → Bool) {l u : List Component} {t : Components} → ((c : Component) → c ∈ l → PartFits c) → TabledParts (filter f l) t → u ≡ component_rows t → (c : Component) → c ∈ u → PartFits c
fits_of f {l} a h e c m = a c (keep_old f l (subst (λ (x : List Component). c ∈ x) (e ∙ holds_list h) m))

pub kept_fits : (f : Component → Bool) {l : List Component} {t : Components} → ((c : Component) → c ∈ l → PartFits c) → TabledParts (filter f l) t → PartsFit t
kept_fits f {l} a h = record { room = holds_count h; each = λ c m. a c (keep_old f l (subst (λ (x : List Component). c ∈ x) (holds_list h) m)) }

module _ (f : Wire → Bool) (g : Component → Bool) (s : Sheet) {left wires : Wires} {parts : Components}
    (a : Tabled (filter (λ w. not (f w)) s.wires) left) (b : TabledParts (filter (λ c. not (g c)) s.parts) parts) (m : Tabled (merge (wire_rows left) (pads_of (component_rows parts))) wires) where
  pub removed_wires : Tabled (remove f g s).wires wires
  unfolding remove
  removed_wires = holds_as (λ i. merge (holds_list a i) (pads_of (holds_list b i))) m

  pub removed_parts : TabledParts (remove f g s).parts parts
  unfolding remove
  removed_parts = b

-- ---- turn

module _ (p : Point) (size : ℕ) {ws wires : Wires} {cs hs parts : Components} (s : Sound ws cs)
    (a : TabledParts (filter (hits p size) (component_rows cs)) hs)
    (b : TabledParts (filter (λ c. not (hits p size c)) (component_rows cs)) parts)
    (m : Tabled (merge (wire_rows ws) (pads_of (component_rows parts))) wires) where
  pub turned_sound : Sound wires parts
  turned_sound = record { wires = holds_self m; parts = holds_self b; fits = kept_fits (λ c. not (hits p size c)) s.fits.each b }

  pub turned_room : parts.count + hs.count ≤ 128
  turned_room = omega (arith, length_parts (hits p size) (component_rows cs), a.count_is, b.count_is, s.parts.room)

  -- no wire is taken out, so the turn is what is placed again on what is left
  pub turned_is : (g : Component → Component) → placed_again (map g (component_rows hs)) (sheet_of wires parts) ≡ turn (hits p size) g (sheet_of ws cs)
  unfolding turn remove
  turned_is g =
      let every : filter (λ w. not false) (wire_rows ws) ≡ wire_rows ws = keep_all (λ w. not_reads (test false)) (wire_rows ws) (λ w k t. t) in
      let are : wire_rows wires ≡ merge (filter (λ w. not false) (wire_rows ws)) (pads_of (filter (λ c. not (hits p size c)) (component_rows cs))) =
      holds_list m ∙ (λ i. merge (sym every i) (pads_of (holds_list b i))) in
      let o = place_all (map g (filter (hits p size) (component_rows cs))) (remove (λ w. false) (hits p size) (sheet_of ws cs)) in
      (λ i. placed_again (map g (holds_list a i)) (record { wires = are i; parts = holds_list b i }))
      ∙ (λ i. record { sheet = o.sheet; hit = length-map (filter (hits p size) (component_rows cs)) g i; lost = o.lost })
