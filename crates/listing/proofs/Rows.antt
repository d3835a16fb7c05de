-- The components one by one: what each has in the lines of a kind, and what is left of the lines behind it.
use mathlib.Core.Path.{◌≡◌, refl, sym, ap, ◌∙◌}
use mathlib.Core.Bool.{cond}
use mathlib.Core.List.{List, [], ◌∷◌, ◌++◌, map}
use Prim.Native.Nat.{ℕ, zero, suc, ◌+◌, ◌≤◌, ◌<◌}
use native.Mathlib.Omega.{arith}
use lib.Dec.{eqb}
use lib.ListN.{length, get_or, drop, drop_of_length-le, length-append}
use Rattle.lists.specs.Tables.{pad}
use Rattle.lists.proofs.Tests.{choose, eqb_reads}
use Rattle.lists.proofs.Tables.{get_d_pad}
use lib.Seq.{drop-cons}
use native.Mathlib.Numerals.{add-one}
use Rattle.sheet.specs.declared.Component.{Component}
use Rattle.sheet.specs.Drawings.{Sheet}
use Rattle.net_numbers.specs.Netted.{net_numbers}
use Rattle.listing.specs.Listing.{relay, switch, Entry, entry, pads_in, entry_lines, lines_in, kind_lines, nth, list_with, list_of}

none_of : (l : List ℕ) (n a b k : ℕ) → (k ≡ 1 → ⊥) → (k ≡ 2 → ⊥) → entry_lines k l n a b ≡ []
unfolding entry_lines
none_of l n a b zero f g = refl
none_of l n a b (suc zero) f g = absurd (f refl)
none_of l n a b (suc (suc zero)) f g = absurd (g refl)
none_of l n a b (suc (suc (suc k))) f g = refl

module _ (e : Entry) {kind : ℕ} (n a b : ℕ) where
  pub contact_lines : {l : List ℕ} → l ≡ e.label → e.kind ≡ kind → kind ≡ 1 → switch l 65 n a ++ switch l 66 n b ≡ lines_in kind e n a b
  unfolding lines_in entry_lines
  contact_lines p q r = (λ i. switch (p i) 65 n a ++ switch (p i) 66 n b) ∙ sym (λ i. cond (eqb ((q ∙ r) i) (r i)) (entry_lines ((q ∙ r) i) e.label n a b) [])

  pub coil_lines : {l : List ℕ} → l ≡ e.label → e.kind ≡ kind → kind ≡ 2 → relay l n ≡ lines_in kind e n a b
  unfolding lines_in entry_lines
  coil_lines p q r = (λ i. relay (p i) n) ∙ sym (λ i. cond (eqb ((q ∙ r) i) (r i)) (entry_lines ((q ∙ r) i) e.label n a b) [])

  pub other_lines : (e.kind ≡ kind → ⊥) → lines_in kind e n a b ≡ []
  unfolding lines_in
  other_lines f = choose (eqb_reads e.kind kind) (λ ls. ls ≡ []) (λ p. absurd (f p)) (λ _. refl)

  pub no_lines : e.kind ≡ kind → (kind ≡ 1 → ⊥) → (kind ≡ 2 → ⊥) → lines_in kind e n a b ≡ []
  unfolding lines_in
  no_lines p f g = choose (eqb_reads e.kind kind) (λ ls. ls ≡ []) (λ q. none_of e.label n a b e.kind (λ r. f (sym p ∙ r)) (λ r. g (sym p ∙ r))) (λ _. refl)

-- the components from row i on, the first of which starts at pad `at`
module _ (cs : List Component) (net : ℕ → ℕ) (kind at i : ℕ) (d : Component) (h : i < length cs) where
  pub lines_step : {k : ℕ} → k ≡ pads_in (get_or cs i d).kind
      → kind_lines net kind at (map entry (drop i cs)) ≡ lines_in kind (entry (get_or cs i d)) (net at) (net (at + 1)) (net (at + 2)) ++ kind_lines net kind (at + k) (map entry (drop (i + 1) cs))
  unfolding kind_lines
  lines_step {k} e =
      ap (λ l. kind_lines net kind at (map entry l)) (drop-cons cs i d h ∙ ap (λ k. get_or cs i d ∷ drop k cs) (sym (add-one i)))
      ∙ ap (λ m. lines_in kind (entry (get_or cs i d)) (net at) (net (at + 1)) (net (at + 2)) ++ kind_lines net kind (at + m) (map entry (drop (i + 1) cs))) (sym e)

  pub lines_part : length (lines_in kind (entry (get_or cs i d)) (net at) (net (at + 1)) (net (at + 2))) ≤ length (kind_lines net kind at (map entry (drop i cs)))
  lines_part =
      let c : Component = get_or cs i d in
      omega (arith, ap length (lines_step refl), length-append (lines_in kind (entry c) (net at) (net (at + 1)) (net (at + 2))) (kind_lines net kind (at + pads_in c.kind) (map entry (drop (i + 1) cs))))

pub lines_end : (cs : List Component) (net : ℕ → ℕ) (kind at i : ℕ) → length cs ≤ i → kind_lines net kind at (map entry (drop i cs)) ≡ []
unfolding kind_lines
lines_end cs net kind at i h = ap (λ l. kind_lines net kind at (map entry l)) (drop_of_length-le cs {i = i} h)

-- zeros behind the numbers change no number
pub nth_pad : (n : ℕ) (ns : List ℕ) → nth (pad n 0 ns) ≡ nth ns
nth_pad n ns = λ i j. get_d_pad n 0 ns j i

-- the list that the code's numbers give
pub list_is : (s : Sheet) {numbers : List ℕ} {cs : List Component} → cs ≡ s.parts → numbers ≡ pad 384 0 (net_numbers s) → list_with (nth numbers) (map entry cs) ≡ list_of s
unfolding list_of
list_is s p e = (λ i. list_with (nth (e i)) (map entry (p i))) ∙ ap (λ net. list_with net (map entry s.parts)) (nth_pad 384 (net_numbers s))
