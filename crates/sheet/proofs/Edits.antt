-- Wire, place and delete keep a sheet good.
use Prim.Native.Nat.{ℕ}
use mathlib.Core.Bool.{Bool, not}
use mathlib.Core.List.Memᴰ.{append_cases as ∈-append}
use mathlib.Core.List.Memᴰ.{append_left as ∈-left}
use mathlib.Core.List.Memᴰ.{append_right as ∈-right}
use mathlib.Core.List.Memᴰ.{not-nil as ∈-nil}
use mathlib.Core.List.{List, ◌++◌}
use mathlib.Core.Path.{◌≡◌, refl, sym, subst, ap, ap₂, ◌∙◌}
use mathlib.Core.Logic.{⊎_elim, inl, inr, ◌↔◌}
use lib.Dec.{T}
use Rattle.lists.specs.Lists.{◌∈◌, insert, none}
use Rattle.std.specs.List.{list_any, filter}
use Rattle.lists.proofs.Tests.{test, not_reads, Reads}
use Rattle.lists.proofs.Lists.{any_reads, keep_all, keep_old, insert_in, in_insert, gather_in, in_gather}
use Rattle.lists.proofs.Order.{rows_keep, rows_insert}
use Rattle.symbol.specs.declared.Point.{Point}
use Rattle.sheet.specs.declared.Wire.{Wire}
use Rattle.sheet.specs.declared.Component.{Component}
use Rattle.sheet.specs.Merge.{merge}
use Rattle.sheet.specs.Boxes.{Shares}
use Rattle.sheet.specs.Parts.{position, box, pads, pads_of, touches, ahead, PartFits}
use Rattle.sheet.specs.Drawings.{empty_sheet, Sheet}
use Rattle.sheet.specs.Edits.{place_one, wire, remove, delete}
use Rattle.sheet.specs.LiesOn.{LiesOn}
use Rattle.sheet.proofs.Points.{rises_reads, rise_trans, rise_back}
use Rattle.sheet.proofs.Wiring.{Drawable, Good, wired_pads}
use Rattle.sheet.proofs.SplitWired.{split_wired}
use Rattle.sheet.proofs.Merge.{clean_keep, merge_wired, merge_same}
use Rattle.sheet.proofs.Run.{drawn_wired, drawn_again, drawn_traced}
use Rattle.sheet.proofs.Boxes.{shares_mirror}
use Rattle.sheet.proofs.Parts.{touches_reads, near}

-- the two do not touch
abbrev pub Clear : Component → Component → Type 0
Clear b c = Shares (box b) (box c) → ⊥

-- some component of the list touches c
pub touched_reads : (c : Component) (cs : List Component) → Reads ((b : Component) × b ∈ cs × Shares (box c) (box b)) (list_any (touches c) cs)
touched_reads c cs = any_reads (touches_reads c) cs

pub empty_good : Good empty_sheet
empty_good = record {
  wires = record { clean = record { fits = λ w m. absurd (∈-nil m); order = none; clear = λ p m w n. absurd (∈-nil n) }; anchored = λ a b m. absurd (∈-nil m) };
  fits = λ c m. absurd (∈-nil m);
  order = none;
  apart = none;
}

-- ---- wire

module _ (n : Wire) (s : Sheet) (fit : Drawable n) (good : Good s) where
  pub wire_good : Good (wire n s)
  unfolding wire
  wire_good = record { wires = drawn_wired n s.wires (pads_of s.parts) fit good.wires; fits = good.fits; order = good.order; apart = good.apart }

  -- made again it changes nothing
  pub wire_again : wire n (wire n s) ≡ wire n s
  unfolding wire
  wire_again = ap (λ ws. record { wires = ws; parts = s.parts }) (drawn_again n s.wires (pads_of s.parts) fit good.wires)

  -- nor does it over wires that are there
  pub wire_traced : LiesOn s.wires n → wire n s ≡ s
  unfolding wire
  wire_traced t = ap (λ ws. record { wires = ws; parts = s.parts }) (drawn_traced n s.wires (pads_of s.parts) fit good.wires t)

-- ---- place

-- the pads after a component went in
gather_insert : (c : Component) (cs : List Component) (p : Point) → (p ∈ pads c ++ pads_of cs) ↔ (p ∈ pads_of (insert ahead c cs))
gather_insert c cs p = (into, out)
  where
    into : p ∈ pads c ++ pads_of cs → p ∈ pads_of (insert ahead c cs)
    into m = ⊎_elim
        (λ (l : p ∈ pads c). in_gather pads (in_insert ahead c cs (inl refl)) l)
        (λ (n : p ∈ pads_of cs). let r = gather_in pads cs n in in_gather pads (in_insert ahead c cs (inr r.1)) r.2)
        (∈-append (pads c) m)

    out : p ∈ pads_of (insert ahead c cs) → p ∈ pads c ++ pads_of cs
    out m = let r = gather_in pads (insert ahead c cs) m in ⊎_elim
        (λ (e : r.0 ≡ c). ∈-left (pads_of cs) (subst (λ b. p ∈ pads b) e r.2))
        (λ (n : r.0 ∈ cs). ∈-right (pads c) (in_gather pads n r.2))
        (insert_in ahead c cs r.1)

pub place_good : (c : Component) (s : Sheet) → PartFits c → Good s → ((b : Component) → b ∈ s.parts → Clear c b) → Good (place_one c s)
unfolding place_one
place_good c s fit good free = record {
  wires = wired_pads (λ p. (gather_insert c s.parts p).0) (λ p. (gather_insert c s.parts p).1) (split_wired (pads c) good.wires);
  fits = λ b m. ⊎_elim (λ (e : b ≡ c). subst PartFits (sym e) fit) (good.fits b) (insert_in ahead c s.parts m);
  order = rows_insert ahead c (λ b m. rises_reads (position c) (position b)) good.order (λ b m t. t) (λ a b m n t r. rise_trans t r)
      (λ b m n. rise_back (position c) (position b) n (λ e. free b m (near c b fit (good.fits b m) e)));
  apart = rows_insert ahead c (λ b m. rises_reads (position c) (position b)) good.apart (λ b m t. free b m) (λ a b m n t r. free b n) (λ b m n t. free b m (shares_mirror t));
}

-- ---- delete

module _ (f : Wire → Bool) (g : Component → Bool) (s : Sheet) where
  -- the components that are left
  abbrev left_parts : List Component
  left_parts = filter (λ c. not (g c)) s.parts

  pub remove_good : Good s → Good (remove f g s)
  unfolding remove
  remove_good good = record {
    wires = merge_wired (clean_keep (λ w. not (f w)) (λ p m. let r = gather_in pads left_parts m in in_gather pads (keep_old (λ c. not (g c)) s.parts r.1) r.2) good.wires.clean);
    fits = λ c m. good.fits c (keep_old (λ c. not (g c)) s.parts m);
    order = rows_keep (λ c. not (g c)) good.order;
    apart = rows_keep (λ c. not (g c)) good.apart;
  }

  -- where nothing is met nothing changes
  pub remove_nothing : Good s → ((w : Wire) → w ∈ s.wires → T (f w) → ⊥) → ((c : Component) → c ∈ s.parts → T (g c) → ⊥) → remove f g s ≡ s
  unfolding remove
  remove_nothing good p q =
      let e = keep_all (λ w. not_reads (test (f w))) s.wires p in
      let e' = keep_all (λ c. not_reads (test (g c))) s.parts q in
      λ i. record { wires = (ap₂ (λ ws cs. merge ws (pads_of cs)) e e' ∙ merge_same good.wires) i; parts = e' i }

pub delete_good : (p : Point) (size : ℕ) (s : Sheet) → Good s → Good (delete p size s)
unfolding delete
delete_good p size s good = remove_good _ _ s good
