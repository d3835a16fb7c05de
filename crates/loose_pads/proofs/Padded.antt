-- The code's row of net numbers has zeros behind the numbers: they make no pad spare, and the numbers stay low.
use Prim.Native.Nat.{ℕ, ◌+◌, ◌-◌}
use native.Mathlib.Omega.{arith}
use mathlib.Core.List.{List, ◌++◌, append-nil}
use mathlib.Core.Path.{◌≡◌, sym, ap, subst, ◌∙◌}
use lib.Dec.{eqb}
use lib.ListN.{length, get_or, replicate}
use Rattle.std.specs.List.{filter}
use Rattle.lists.specs.Tables.{pad}
use Rattle.lists.proofs.Appends.{keep_append}
use Rattle.lists.proofs.Lists.{keep_none}
use Rattle.lists.proofs.Tables.{get_d_pad, zeros_only}
use Rattle.lists.proofs.Tests.{reads_as, and_reads, not_reads, eqb_reads, same_test}
use Rattle.sheet.specs.declared.Drawing.{Drawing}
use Rattle.sheet.specs.Drawings.{lists_of}
use Rattle.sheet.specs.Rules.{Lawful}
use Rattle.net_numbers.specs.Netted.{net_numbers}
use Rattle.net_numbers.proofs.Numbered.{net_numbers_few}
use Rattle.loose_pads.specs.Loose.{pad-v, pad_names}
use Rattle.loose_pads.specs.Counting.{occurs, spare, loose_by, is_loose, numbers_from, loose_pads}
use Rattle.loose_pads.specs.Walking.{Low}

occurs_zeros : (n : ℕ) → (n ≡ 0 → ⊥) → (ns : List ℕ) (k : ℕ) → occurs n (ns ++ replicate k 0) ≡ occurs n ns
unfolding occurs
occurs_zeros n f ns k =
    let none = keep_none (eqb_reads n) (replicate k 0) (λ m i e. f (e ∙ zeros_only 0 k i)) in
    ap length (keep_append (eqb n) ns (replicate k 0) ∙ ap (λ (l : List ℕ). filter (eqb n) ns ++ l) none ∙ append-nil (filter (eqb n) ns))

spare_zeros : (ns : List ℕ) (n i : ℕ) → spare (pad n 0 ns) i ≡ spare ns i
unfolding spare pad
spare_zeros ns n i =
    let m : ℕ = get_or ns i 0 in
    rw (get_d_pad n 0 ns i) (same_test
    (reads_as (λ r. (r.0, sym (occurs_zeros m r.0 ns (n - length ns)) ∙ r.1), λ r. (r.0, occurs_zeros m r.0 ns (n - length ns) ∙ r.1)) (and_reads (not_reads (eqb_reads m 0)) (eqb_reads (occurs m (pad n 0 ns)) 1)))
    (and_reads (not_reads (eqb_reads m 0)) (eqb_reads (occurs m ns) 1)))

pub loose_padded : (kinds ns : List ℕ) (n : ℕ) → loose_pads kinds (pad n 0 ns) ≡ loose_pads kinds ns
unfolding loose_pads is_loose
loose_padded kinds ns n = λ t. filter (λ i. loose_by (get_or (pad_names kinds) i pad-v) (spare_zeros ns n (i - 1) t) (spare_zeros ns n i t) (spare_zeros ns n (i + 1) t)) (numbers_from 0 (length (pad_names kinds)))

pub numbers_low : {d : Drawing} → Lawful d → {numbers : List ℕ} → numbers ≡ pad 384 0 (net_numbers (lists_of d)) → Low numbers
numbers_low {d} l e = subst Low (sym e) (record { low = λ i. omega (arith, get_d_pad 384 0 (net_numbers (lists_of d)) i, net_numbers_few l i) })
