-- The count is how many pads are loose.
use Prim.Native.Nat.{ℕ, zero, suc, ◌+◌, ◌≤◌, ◌<◌}
use native.Mathlib.Omega.{arith}
use mathlib.Core.List.Memᴰ.{head as ∈-head}
use mathlib.Core.List.Memᴰ.{not-nil as ∈-nil}
use mathlib.Core.List.Memᴰ.{tail as ∈-tail}
use mathlib.Core.List.{List, ◌∷◌}
use mathlib.Core.Logic.{◌⊎◌, inl, inr}
use mathlib.Core.Path.{◌≡◌, refl}
use lib.ListN.{length}
use Rattle.lists.specs.Lists.{◌∈◌, Rows, none, more}
use Rattle.lists.proofs.Lists.{in_cons, keep_in, in_keep}
use Rattle.lists.proofs.Order.{rows_keep}
use Rattle.lists.proofs.Tests.{eqb_reads, decide}
use Rattle.sheet.specs.Drawings.{Sheet}
use Rattle.nets.proofs.At.{at_low}
use Rattle.loose_pads.specs.Loose.{pad_names, kinds_of, Loose}
use Rattle.loose_pads.specs.Counting.{HowMany, numbers_from, loose_pads, loose_of}
use Rattle.loose_pads.proofs.Deciding.{loose_reads}

-- ---- numbers one after the other

from_low : (i n : ℕ) {j : ℕ} → j ∈ numbers_from i n → i ≤ j
unfolding numbers_from
from_low i zero m = absurd (∈-nil m)
from_low i (suc n) m = in_cons (λ j. i ≤ j) (omega arith) (λ j k. omega (arith, from_low (i + 1) n k)) m

from_rise : (i n : ℕ) → Rows ◌<◌ (numbers_from i n)
unfolding numbers_from
from_rise i zero = none
from_rise i (suc n) = more {x = i} (λ j (m : j ∈ numbers_from (i + 1) n). omega (arith, from_low (i + 1) n m)) (from_rise (i + 1) n)

from_all : (i n j : ℕ) → i ≤ j → j < i + n → j ∈ numbers_from i n
unfolding numbers_from
from_all i zero j a b = absurd (omega arith)
from_all i (suc n) j a b = here (decide (eqb_reads j i)) (from_all (i + 1) n j)
  where
    here : (j ≡ i) ⊎ (j ≡ i → ⊥) → (i + 1 ≤ j → j < i + 1 + n → j ∈ numbers_from (i + 1) n) → j ∈ i ∷ numbers_from (i + 1) n
    here (inl e) rest = ∈-head e
    here (inr f) rest = ∈-tail (rest (omega (arith, f)) (omega arith))

-- ---- the loose pads

pub how_many_loose : (s : Sheet) → HowMany (Loose s) (loose_of s)
unfolding loose_of loose_pads
how_many_loose s =
    let kinds : List ℕ = kinds_of s.parts in
    record {
      listed = _;
      each = λ i. (λ m. (keep_in (loose_reads s) (numbers_from 0 (length (pad_names kinds))) m).1, λ l. in_keep (loose_reads s) (from_all 0 (length (pad_names kinds)) i (omega arith) (omega (arith, at_low l.called))) l);
      once = rows_keep _ (from_rise 0 (length (pad_names kinds)));
      all = refl;
    }
