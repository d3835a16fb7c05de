-- Two sheets whose components have the same kinds and labels, row by row, have the same list exactly when they have the same nets, pad by pad.
use mathlib.Core.Path.{◌≡◌, refl, sym, ap, subst, ◌∙◌}
use mathlib.Core.Logic.{◌↔◌}
use mathlib.Core.List.Memᴰ.{head as ∈-head}
use mathlib.Core.List.Memᴰ.{of_map as ∈-of-map}
use mathlib.Core.List.Memᴰ.{tail as ∈-tail}
use mathlib.Core.List.{List, [], ◌∷◌, ◌++◌, map}
use Prim.Native.Nat.{ℕ, zero, suc, ◌+◌, ◌≤◌, ◌<◌}
use native.Mathlib.Omega.{arith}
use lib.ListN.{length, length-append}
use lib.Seq.{ext_get_or}
use Rattle.lists.specs.Lists.{◌∈◌}
use Rattle.std.specs.List.{flat_map}
use Rattle.lists.proofs.Lists.{in_gather, in_keep}
use Rattle.lists.proofs.Tests.{eqb_reads}
use Rattle.symbol.specs.declared.Point.{Point}
use Rattle.sheet.specs.declared.Component.{Component}
use Rattle.sheet.specs.Parts.{pads, pads_of}
use Rattle.sheet.specs.Drawings.{Sheet}
use Rattle.sheet.proofs.Parts.{pads_by_kind}
use Rattle.nets.specs.Nets.{At, first, later, here}
use Rattle.nets.proofs.At.{at_low, at_some, at_get, at_in}
use Rattle.nets.proofs.Same.{SameNets, same_numbers}
use Rattle.net_numbers.specs.Netted.{net_on, net_numbers}
use Rattle.net_numbers.proofs.Numbered.{numbered}
use Rattle.listing.specs.Listing.{Entry, entry, pads_in, nth, list_with, list_of}
use Rattle.netlist.proofs.Told.{pads_all, Agree, Alike, list_told}

-- ---- places in a list

module _ {A : Type 0} where
  at_left : {xs : List A} {i : ℕ} {x : A} (ys : List A) → At xs i x → At (xs ++ ys) i x
  at_left ys first = first
  at_left ys (later a) = later (at_left ys a)

  at_right : (xs : List A) {ys : List A} {i : ℕ} {y : A} → At ys i y → At (xs ++ ys) (length xs + i) y
  at_right [] {ys} {i} {y} a = let e : i ≡ 0 + i = omega arith in subst (λ k. At ys k y) e a
  at_right (x ∷ xs) {ys} {i} {y} a = let e : suc (length xs + i) ≡ suc (length xs) + i = omega arith in subst (λ k. At (x ∷ (xs ++ ys)) k y) e (later (at_right xs a))

-- ---- pads

some_pad : (k : ℕ) → 0 < pads_in k
some_pad zero = omega arith
some_pad (suc zero) = omega arith
some_pad (suc (suc k)) = omega arith

pub pads_total : (cs : List Component) → pads_all (map entry cs) ≡ length (pads_of cs)
unfolding pads_all
pads_total [] = refl
pads_total (c ∷ cs) = omega (arith, length-append (pads c) (flat_map pads cs), pads_by_kind c, pads_total cs)

-- ---- power pads are on net 0

abbrev Zeros : (ℕ → ℕ) → ℕ → List Entry → Type 0
Zeros net i [] = Unit
Zeros net i (e ∷ es) = (e.kind ≡ 0 → net i ≡ 0) × Zeros net (i + pads_in e.kind) es

zeros_alike : (net net' : ℕ → ℕ) (i : ℕ) (es : List Entry) → Zeros net i es → Zeros net' i es → Alike net net' 0 i es
zeros_alike net net' i [] a b = tt
zeros_alike net net' i (x ∷ es) a b =
    (λ p. subst (λ k. Agree net net' k i) (sym p) (a.0 p ∙ sym (b.0 p)), zeros_alike net net' (i + pads_in x.kind) es a.1 b.1)

module _ (s : Sheet) where
  zero_at : (c : Component) → c ∈ s.parts → c.kind ≡ 0 → {k : ℕ} {p : Point} → At (pads_of s.parts) k p → p ∈ pads c → nth (net_numbers s) k ≡ 0
  zero_at c m e {k} {p} a q =
      let n = at_some (net_numbers s) k (omega (arith, at_low a, (numbered s).each)) in
      at_get 0 n.1 ∙ ((numbered s).feds a n.1).1 (record { power = p; placed = in_gather pads (in_keep (λ b. eqb_reads b.kind 0) m e) q; chain = here })

  -- the components cs, whose first pad is pad i
  zeros : (cs : List Component) (i : ℕ) → ((c : Component) → c ∈ cs → c ∈ s.parts) → ((j : ℕ) (p : Point) → At (pads_of cs) j p → At (pads_of s.parts) (i + j) p) → Zeros (nth (net_numbers s)) i (map entry cs)
  zeros [] i old at = tt
  zeros (c ∷ cs) i old at = (
    λ e.
        let p = at_some (pads c) 0 (omega (arith, pads_by_kind c, some_pad c.kind)) in
        let z : i + 0 ≡ i = omega arith in
        zero_at c (old c (∈-head refl)) e (subst (λ k. At (pads_of s.parts) k p.0) z (at 0 p.0 (at_left (flat_map pads cs) p.1))) (at_in p.1),
    zeros cs (i + pads_in c.kind) (λ b m. old b (∈-tail m)) (λ j p a.
        let z : i + (length (pads c) + j) ≡ i + pads_in c.kind + j = omega (arith, pads_by_kind c) in
        subst (λ k. At (pads_of s.parts) k p) z (at (length (pads c) + j) p (at_right (pads c) a))),
  )

  all_zeros : Zeros (nth (net_numbers s)) 0 (map entry s.parts)
  all_zeros = zeros s.parts 0 (λ c m. m) (λ j p a. let z : j ≡ 0 + j = omega arith in subst (λ k. At (pads_of s.parts) k p) z a)

-- ---- two sheets

module _ (s t : Sheet) (kinds : (c : Component) → c ∈ s.parts → c.kind ≤ 2) (alike : map entry s.parts ≡ map entry t.parts) where
  same_count : length (pads_of s.parts) ≡ length (pads_of t.parts)
  same_count = sym (pads_total s.parts) ∙ ap pads_all alike ∙ pads_total t.parts

  -- the same list exactly with the same net numbers
  pub lists_told : (list_of s ≡ list_of t) ↔ (net_numbers s ≡ net_numbers t)
  unfolding list_of
  lists_told = (
    λ e.
        let es : List Entry = map entry s.parts in
        let zs : Zeros (nth (net_numbers t)) 0 es = subst (Zeros (nth (net_numbers t)) 0) (sym alike) (all_zeros t) in
        let told = list_told (nth (net_numbers s)) (nth (net_numbers t)) es (λ x m. let r = ∈-of-map entry s.parts m in subst (λ y. y.kind ≤ 2) r.2 (kinds r.0 r.1))
        (zeros_alike (nth (net_numbers s)) (nth (net_numbers t)) 0 es (all_zeros s) zs) (e ∙ ap (list_with (nth (net_numbers t))) (sym alike)) in
        ext_get_or 0 (net_numbers s) (net_numbers t) ((numbered s).each ∙ same_count ∙ sym (numbered t).each) (λ j h. told j (omega (arith, (numbered s).each, pads_total s.parts))),
    λ e. (λ i. list_with (nth (e i)) (alike i)),
  )

  -- and with the same nets
  pub lists_same : (list_of s ≡ list_of t) ↔ SameNets (net_on s) (pads_of s.parts) (net_on t) (pads_of t.parts)
  lists_same = let same = same_numbers (numbered s) (numbered t) same_count in (λ e. same.0 (lists_told.0 e), λ n. lists_told.1 (same.1 n))
