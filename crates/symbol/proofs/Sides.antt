-- A coordinate of a component's point, by its distance from the position's; and how far two on either side of it reach.
use mathlib.Core.Path.{◌≡◌, refl}
use Prim.Native.Nat.{ℕ, zero, suc, ◌+◌, ◌-◌, min, max}
use native.Mathlib.Omega.{arith}
use mathlib.Core.Bool.{Bool, ◌&&◌, ◌||◌}
use mathlib.Core.Logic.{⊎_elim}
use lib.Dec.{T}
use lib.IntN.{ℤ, pos, negsuc, neg_ℤ, ◌+ℤ◌}
use lib.Signed.{le_z}
use Rattle.lists.proofs.Tests.{and_reads, or_reads, leb_reads, holds}
use Rattle.edge.specs.Coordinates.{to_ℕ, coord_of, biased}
use Rattle.edge.proofs.Whole.{added, pos_sub, neg_sub_suc}

-- the coordinate that lies z from x
abbrev pub put : ℕ → ℤ → ℕ
put x z = biased (coord_of x +ℤ z)

put_pos : (x n : ℕ) → put x (pos n) ≡ x + n - 0
put_pos x n = added x n 0 (pos n) (pos_sub n)

put_neg : (x n : ℕ) → put x (negsuc n) ≡ x + 0 - suc n
put_neg x n = added x 0 (suc n) (negsuc n) (neg_sub_suc n)

-- one of z and w is at most 0 and the other at least 0
abbrev pub astride : ℤ → ℤ → Bool
astride z w = (le_z z (pos 0) && le_z (pos 0) w) || (le_z w (pos 0) && le_z (pos 0) z)

-- then this is how far they reach below 0, and above
abbrev pub below : ℤ → ℤ → ℕ
below z w = to_ℕ (neg_ℤ z) + to_ℕ (neg_ℤ w)

abbrev pub above : ℤ → ℤ → ℕ
above z w = to_ℕ z + to_ℕ w

nothing_below : (m : ℕ) → to_ℕ (neg_ℤ (pos m)) ≡ 0
nothing_below zero = refl
nothing_below (suc m) = refl

pub sided : (x : ℕ) (z w : ℤ) → T (astride z w) → (min (put x z) (put x w) ≡ x - below z w) × (max (put x z) (put x w) ≡ x + above z w)
sided x (pos m) (pos n) t =
    let one = holds (or_reads (and_reads (leb_reads m 0) (leb_reads 0 n)) (and_reads (leb_reads n 0) (leb_reads 0 m))) t in
    let e = put_pos x m in
    let f = put_pos x n in
    let a = nothing_below m in
    let b = nothing_below n in
    ⊎_elim (λ h. let h0 = h.0 in (omega arith, omega arith)) (λ h. let h0 = h.0 in (omega arith, omega arith)) one
sided x (pos m) (negsuc n) t = let e = put_pos x m in let f = put_neg x n in let a = nothing_below m in (omega arith, omega arith)
sided x (negsuc m) (pos n) t = let e = put_neg x m in let f = put_pos x n in let b = nothing_below n in (omega arith, omega arith)
sided x (negsuc m) (negsuc n) t = absurd t
