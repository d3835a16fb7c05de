-- The components hit, placed again one by one: what the rest makes of the tables so far is the whole.
use Prim.Native.Nat.{ℕ, suc, ◌+◌, ◌≤◌, ◌<◌}
use native.Mathlib.Nat.{zero-add, add-zero}
use native.Mathlib.Omega.{arith}
use mathlib.Core.Bool.{true, false}
use mathlib.Core.List.{List, ◌∷◌, map}
use mathlib.Core.Logic.{⊎_elim}
use mathlib.Core.Path.{◌≡◌, refl, sym, ap, ◌∙◌, subst}
use native.Mathlib.Numerals.{add-one}
use lib.ListN.{length, drop, get_or, drop_of_length-le}
use lib.Seq.{drop-cons}
use Rattle.lists.specs.Lists.{◌∈◌, insert}
use Rattle.std.specs.List.{list_any}
use Rattle.lists.proofs.Lists.{insert_in}
use Rattle.lists.proofs.Appends.{length_insert}
use Rattle.lists.proofs.Tables.{holds_as, holds_list}
use Rattle.sheet.specs.declared.Component.{Component}
use Rattle.sheet.specs.Tables.{Wires}
use Rattle.sheet.specs.Tables.{Components}
use Rattle.sheet.specs.Parts.{PartFits, pads, touches, ahead}
use Rattle.sheet.specs.Drawings.{Sheet, component_rows}
use Rattle.sheet.specs.Edits.{Placed, place_one, place_all}
use Rattle.sheet.proofs.Room.{place_all_no_shorter}
use Rattle.std.specs.Prelude.{Result, Ok, Err}
use Rattle.table.specs.declared.NoRoom.{NoRoom}
use Rattle.wires.specs.Tables.{Tabled, Splits}
use Rattle.parts.specs.Tables.{TabledParts}
use Rattle.joints.specs.Tables.{sheet_of, Sound}

-- n more are lost
abbrev lose : ℕ → Placed → Placed
lose n o = record { sheet = o.sheet; lost = n + o.lost }

pub record Placing (whole : Placed) (alter : Component → Component) (hits : List Component) (i : ℕ) (ws : Wires) (cs : Components) (lost : ℕ) : Type 0 where
  pub sheet : Sheet
  pub wires : Tabled sheet.wires ws
  pub parts : TabledParts sheet.parts cs
  pub rest : lose lost (place_all (map alter (drop i hits)) sheet) ≡ whole

pub placing_start : (alter : Component → Component) (hits : List Component) {ws : Wires} {cs : Components} → Sound ws cs
    → Placing (place_all (map alter hits) (sheet_of ws cs)) alter hits 0 ws cs 0
placing_start alter hits {ws} {cs} s = record {
  sheet = sheet_of ws cs;
  wires = s.wires;
  parts = s.parts;
  rest = let o = place_all (map alter hits) (sheet_of ws cs) in λ i. record { sheet = o.sheet; lost = zero-add o.lost i };
}

-- components in a table
pub fits_held : {l : List Component} {t : Components} → TabledParts l t → ((c : Component) → c ∈ l → PartFits c) → (c : Component) → c ∈ component_rows t → PartFits c
fits_held h f c m = f c (subst (λ (x : List Component). c ∈ x) (holds_list h) m)

-- the next one touches another, or it does not
module _ (n : ℕ) (c : Component) (cs : List Component) (s : Sheet) where
  next_lost : list_any (touches c) s.parts ≡ true → lose n (place_all (c ∷ cs) s) ≡ lose (n + 1) (place_all cs s)
  unfolding place_all
  next_lost e = let more : n + suc (place_all cs s).lost ≡ n + 1 + (place_all cs s).lost = omega arith in
      rw e (λ i. record { sheet = (place_all cs s).sheet; lost = more i })

  next_placed : list_any (touches c) s.parts ≡ false → lose n (place_all (c ∷ cs) s) ≡ lose n (place_all cs (place_one c s))
  unfolding place_all
  next_placed e = rw e

module _ {whole : Placed} {alter : Component → Component} {hits : List Component} {i : ℕ} {ws : Wires} {cs : Components} {lost : ℕ} (s : Placing whole alter hits i ws cs lost) where
  module _ (d c : Component) (e : c ≡ alter (get_or hits i d)) (h : i < length hits) where
    -- the one at hand, and the rest
    next : lose lost (place_all (c ∷ map alter (drop (i + 1) hits)) s.sheet) ≡ whole
    next = let front : drop i hits ≡ get_or hits i d ∷ drop (i + 1) hits = rw add-one (drop-cons hits i d h) in (λ j. lose lost (place_all (e j ∷ map alter (drop (i + 1) hits)) s.sheet)) ∙ sym (ap (λ (l : List Component). lose lost (place_all (map alter l) s.sheet)) front) ∙ s.rest

    pub placing_lost : list_any (touches c) (component_rows cs) ≡ true → Placing whole alter hits (i + 1) ws cs (lost + 1)
    placing_lost t = record {
      sheet = s.sheet;
      wires = s.wires;
      parts = s.parts;
      rest = sym (next_lost lost c (map alter (drop (i + 1) hits)) s.sheet ((λ j. list_any (touches c) (sym (holds_list s.parts) j)) ∙ t)) ∙ next;
    }

    module _ (t : list_any (touches c) (component_rows cs) ≡ false) where
      placed : lose lost (place_all (map alter (drop (i + 1) hits)) (place_one c s.sheet)) ≡ whole
      placed = sym (next_placed lost c (map alter (drop (i + 1) hits)) s.sheet ((λ j. list_any (touches c) (sym (holds_list s.parts) j)) ∙ t)) ∙ next

      pub placing_placed : {u : Wires} {v : Components} → Splits (pads c) ws (Ok u) → TabledParts (insert ahead c (component_rows cs)) v → Placing whole alter hits (i + 1) u v lost
      unfolding place_one
      placing_placed a b = record { sheet = place_one c s.sheet; wires = a.so s.sheet.wires s.wires; parts = holds_as (ap (insert ahead c) (holds_list s.parts)) b; rest = placed }

      -- with no room for its wires there is none at the end
      pub placing_over : {n : NoRoom} → Splits (pads c) ws (Err n) → 512 < length whole.sheet.wires
      unfolding place_one
      placing_over a = omega (arith, a.so s.sheet.wires s.wires, place_all_no_shorter (map alter (drop (i + 1) hits)) (place_one c s.sheet), ap (λ (o : Placed). length o.sheet.wires) placed)

  pub placing_end : length hits ≤ i → Tabled whole.sheet.wires ws × (TabledParts whole.sheet.parts cs × (lost ≡ whole.lost))
  unfolding place_all
  placing_end h =
      let e = sym (ap (λ (l : List Component). lose lost (place_all (map alter l) s.sheet)) (drop_of_length-le hits h)) ∙ s.rest in
      (subst (λ (o : Placed). Tabled o.sheet.wires ws) e s.wires, (subst (λ (o : Placed). TabledParts o.sheet.parts cs) e s.parts, sym (add-zero lost) ∙ ap (λ (o : Placed). o.lost) e))

-- components that fit, with one more
pub fits_more : {c : Component} (cs : Components) {v : Components} → PartFits c → ((b : Component) → b ∈ component_rows cs → PartFits b) → TabledParts (insert ahead c (component_rows cs)) v → (b : Component) → b ∈ component_rows v → PartFits b
fits_more {c} cs f g h = fits_held h (λ z q. ⊎_elim (λ (x : z ≡ c). subst PartFits (sym x) f) (g z) (insert_in ahead c (component_rows cs) q))

pub insert_count : (c : Component) {cs v : Components} → TabledParts (component_rows cs) cs → TabledParts (insert ahead c (component_rows cs)) v → v.count ≡ cs.count + 1
insert_count c {cs} a b = omega (arith, a.count_is, b.count_is, length_insert ahead c (component_rows cs))
