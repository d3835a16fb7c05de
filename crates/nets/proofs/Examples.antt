-- The nets of document 01's whole output, from its joints' numbers, and the case in which the Rust forgets a link.
use mathlib.Core.Path.{◌≡◌, refl}
use mathlib.Core.List.{[], ◌∷◌}
use Prim.Native.Nat.{ℕ}
use Rattle.nets.specs.Nets.{Net}
use Rattle.nets.specs.Numbers.{merged, net_from, first_net, net_of, rank, meet, number_from, numbering, numbers_of}

-- joints 1 (200,-100), 2 (300,-100), 3 (0,0), 4 (200,0), 5 (250,100), 6 (350,100), 7 (0,300); power at 3
abbrev whole : Net ℕ
whole = record { links = (1, 2) ∷ (3, 4) ∷ (3, 7) ∷ (1, 4) ∷ []; powers = 3 ∷ [] }

-- V+, then C, A and B of the contact, then N of the coil
whole_output : numbers_of whole (3 ∷ 2 ∷ 5 ∷ 6 ∷ 7 ∷ []) ≡ 0 ∷ 0 ∷ 1 ∷ 2 ∷ 0 ∷ []
unfolding numbers_of numbering number_from meet rank net_of net_from merged first_net
whole_output = refl

-- links 3 to 1, then 3 to 2: all on net 1
forgotten : numbers_of (record { links = (3, 1) ∷ (3, 2) ∷ []; powers = [] }) (1 ∷ 2 ∷ 3 ∷ 4 ∷ []) ≡ 1 ∷ 1 ∷ 1 ∷ 2 ∷ []
unfolding numbers_of numbering number_from meet rank net_of net_from merged first_net
forgotten = refl
