-- What a lent slice holds are bytes.
use mathlib.Core.List.Memᴰ.{head as ∈-head}
use mathlib.Core.List.Memᴰ.{not-nil as ∈-nil}
use mathlib.Core.List.Memᴰ.{tail as ∈-tail}
use mathlib.Core.List.{List, [], ◌∷◌}
use Prim.Native.Nat.{ℕ, suc, ◌<◌}
use native.Mathlib.Omega.{arith}
use lib.ListN.{get_or, drop}
use Rattle.lists.specs.Lists.{◌∈◌}
use Rattle.lists.proofs.Finding.{in_drop}
use Rattle.groups.specs.Groups.{Bytes}

pub all_bytes : (s : List ℕ) → ((i : ℕ) → get_or s i 0 < 256) → Bytes s
all_bytes s h b m = go s h m
  where
    go : (s : List ℕ) → ((i : ℕ) → get_or s i 0 < 256) → b ∈ s → b < 256
    go [] h m = absurd (∈-nil m)
    go (x ∷ s) h (∈-head e) = let k = h 0 in omega (arith, e, k)
    go (x ∷ s) h (∈-tail m) = go s (λ i. h (suc i)) m

-- and so are those from an index on
pub bytes_from : (at : ℕ) {s : List ℕ} → Bytes s → Bytes (drop at s)
bytes_from at {s} h b m = h b (in_drop at s m)
