-- How long the words are at most.
use mathlib.Core.Path.{◌≡◌, ap, ◌∙◌}
use mathlib.Core.Logic.{⊎_elim}
use Prim.Native.Nat.{ℕ, suc, ◌-◌, ◌≤◌, ◌<◌}
use native.Mathlib.Omega.{arith}
use lib.IntN.{ℤ}
use lib.ListN.{length}
use mir.Syntax.{w32}
use mir.Val.{SFits, to_z, of_z}
use mir.Facts.{to_z-of_z}
use Rattle.lists.proofs.Tests.{decide, ltb_reads}
use Rattle.edge.specs.Coordinates.{coord_of}
use Rattle.edge.proofs.Whole.{sub_pos, sub_neg, mag_sub}
use Rattle.text.specs.Text.{signed_of}
use Rattle.text.proofs.Decimals.{length_decimal}

-- the coordinate of a row's number of 16 bits, -6000 to 59535, has at most 5 bytes
pub length_coordinate : (n : ℕ) → n < 65536 → length (signed_of (coord_of n)) ≤ 5
unfolding signed_of
length_coordinate n h = ⊎_elim
    (λ lt. omega (arith, ap (λ (z : ℤ). length (signed_of z)) (sub_neg n 6000 (omega (arith, lt))), length_decimal 3 (suc (6000 - suc n)) (omega (arith, lt))))
    (λ ge. omega (arith, ap (λ (z : ℤ). length (signed_of z)) (sub_pos n 6000 (omega (arith, ge))), length_decimal 4 (n - 6000) (omega (arith, ge))))
    (decide (ltb_reads n 6000))

-- the coordinate of a row's number, as it is handed on
pub handed : (n : ℕ) → n < 65536 → {z : ℤ} → z ≡ coord_of n → signed_of (to_z w32 (of_z w32 z)) ≡ signed_of (coord_of n)
handed n h {z} e =
    let m = mag_sub n 6000 in
    let f : SFits w32 (coord_of n) = record { sfits = omega arith } in
    ap (λ (y : ℤ). signed_of (to_z w32 (of_z w32 y))) e ∙ ap signed_of (to_z-of_z {w = w32} {z = coord_of n} f)
