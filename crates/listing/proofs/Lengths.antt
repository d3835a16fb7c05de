-- 7,936 bytes always suffice: 62 for each of 128 components, where labels have at most 16 bytes and numbers three digits.
use mathlib.Core.Path.{◌≡◌, refl, subst}
use mathlib.Core.Bool.{Bool, cond}
use mathlib.Core.List.Memᴰ.{head as ∈-head}
use mathlib.Core.List.Memᴰ.{of_map as ∈-of-map}
use mathlib.Core.List.Memᴰ.{tail as ∈-tail}
use mathlib.Core.List.{List, [], ◌∷◌, map}
use Prim.Native.Nat.{ℕ, zero, suc, ◌+◌, ◌*◌, ◌≤◌, ◌<◌}
use native.Mathlib.Omega.{arith}
use lib.Dec.{eqb}
use lib.ListN.{length, length-append, length-map}
use Rattle.lists.specs.Lists.{◌∈◌}
use Rattle.lists.proofs.Tests.{Reads, pass, fail, eqb_reads}
use Rattle.lists.proofs.Finding.{in_take}
use Rattle.label.proofs.Labels.{label_short}
use Rattle.sheet.specs.declared.Drawing.{Drawing}
use Rattle.sheet.specs.Drawings.{Sized, lists_of}
use Rattle.sheet.specs.Rules.{Lawful}
use Rattle.sheet.proofs.Rules.{lawful_room}
use Rattle.text.specs.Text.{decimal_of}
use Rattle.text.proofs.Decimals.{length_decimal}
use Rattle.net_numbers.specs.Netted.{net_numbers}
use Rattle.net_numbers.proofs.Numbered.{net_numbers_few}
use Rattle.listing.specs.Listing.{switch, Entry, entry, pads_in, entry_lines, lines_in, kind_lines, list_with, nth, list_of}
use Rattle.listing.proofs.Spelling.{length_net, length_pin, length_relay, length_switch}

lines_short : (k : ℕ) (l : List ℕ) (a b c : ℕ) → length l ≤ 16 → length (decimal_of a) ≤ 3 → length (decimal_of b) ≤ 3 → length (decimal_of c) ≤ 3 → length (entry_lines k l a b c) ≤ 62
unfolding entry_lines
lines_short zero l a b c h i j k = omega arith
lines_short (suc zero) l a b c h i j k = omega (
  arith,
  length-append (switch l 65 a b) (switch l 66 a c),
  length_switch l 65 a b,
  length_switch l 66 a c,
  length_pin l 65,
  length_pin l 66,
  length_net a,
  length_net b,
  length_net c,
)
lines_short (suc (suc zero)) l a b c h i j k = omega (arith, length_relay l a, length_pin l 65, length_pin l 66, length_net a)
lines_short (suc (suc (suc n))) l a b c h i j k = omega arith

-- a component has lines of one kind only
one_kind : (k : ℕ) (ls : List ℕ) → length ls ≤ 62 → {t u : Bool} → Reads (k ≡ 2) t → Reads (k ≡ 1) u → length (cond t ls []) + length (cond u ls []) ≤ 62
one_kind k ls h (pass p) (pass q) = absurd (omega arith)
one_kind k ls h (pass p) (fail q) = omega arith
one_kind k ls h (fail p) (pass q) = omega arith
one_kind k ls h (fail p) (fail q) = omega arith

-- the coils and the contacts
pub length_list : (net : ℕ → ℕ) (es : List Entry) → length (list_with net es) ≡ length (kind_lines net 2 0 es) + length (kind_lines net 1 0 es)
unfolding list_with
length_list net es = length-append (kind_lines net 2 0 es) (kind_lines net 1 0 es)

module _ (net : ℕ → ℕ) (digits : (j : ℕ) → length (decimal_of (net j)) ≤ 3) where
  both_short : (es : List Entry) (i : ℕ) → ((e : Entry) → e ∈ es → length e.label ≤ 16) → length (kind_lines net 2 i es) + length (kind_lines net 1 i es) ≤ 62 * length es
  unfolding kind_lines lines_in
  both_short [] i h = omega arith
  both_short (x ∷ es) i h =
      let ls : List ℕ = entry_lines x.kind x.label (net i) (net (i + 1)) (net (i + 2)) in
      let j : ℕ = i + pads_in x.kind in
      let one = one_kind x.kind ls (lines_short x.kind x.label (net i) (net (i + 1)) (net (i + 2)) (h x (∈-head refl)) (digits i) (digits (i + 1)) (digits (i + 2))) (eqb_reads x.kind 2) (eqb_reads x.kind 1) in
      omega (
        arith,
        one,
        both_short es j (λ e m. h e (∈-tail m)),
        length-append (cond (eqb x.kind 2) ls []) (kind_lines net 2 j es),
        length-append (cond (eqb x.kind 1) ls []) (kind_lines net 1 j es),
      )

  list_short : (es : List Entry) → ((e : Entry) → e ∈ es → length e.label ≤ 16) → length es ≤ 128 → length (list_with net es) ≤ 7936
  list_short es h n = omega (arith, both_short es 0 h, length_list net es)

-- "7,936 bytes always suffice"
pub list_room : {d : Drawing} → Lawful d → Sized d → length (list_of (lists_of d)) ≤ 7936
unfolding list_of
list_room {d} l z =
    let s = lists_of d in
    let room = lawful_room l in
    let low : (j : ℕ) → nth (net_numbers s) j < 1000 = λ j. omega (arith, net_numbers_few l j) in
    list_short (nth (net_numbers s)) (λ j. length_decimal 2 (nth (net_numbers s) j) (low j)) (map entry s.parts)
    (λ e m. let r = ∈-of-map entry s.parts m in subst (λ (x : Entry). length x.label ≤ 16) r.2 (omega (arith, label_short r.0.label, z.labels r.0 (in_take d.components.count d.components.rows r.1))))
    (omega (arith, length-map s.parts entry, room.parts))
