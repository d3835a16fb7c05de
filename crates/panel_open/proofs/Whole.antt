-- What is printed of the bytes read is what is printed of the whole input.
use mathlib.Core.Path.{◌≡◌, ap, ◌∙◌}
use mathlib.Core.Logic.{⊎_elim}
use mathlib.Core.List.{List, [], ◌++◌, append-nil}
use Prim.Native.Nat.{ℕ, ◌<◌}
use native.Mathlib.Omega.{arith}
use lib.ListN.{length}
use Rattle.lists.proofs.Tests.{decide, ltb_reads}
use Rattle.shown.specs.Shown.{shown_of}
use Rattle.shown.proofs.Longer.{longer_shown}

pub whole_shown : (input behind : List ℕ) → (length input < 65536 → behind ≡ []) → shown_of (input ++ behind) ≡ shown_of input
whole_shown input behind ends = ⊎_elim
    (λ (l : length input < 65536). ap (λ t. shown_of (input ++ t)) (ends l) ∙ ap shown_of (append-nil input))
    (λ (n : length input < 65536 → ⊥). longer_shown input behind (omega (arith, n)))
    (decide (ltb_reads (length input) 65536))
