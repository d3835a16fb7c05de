-- The tests of coordinates, and positions in floats, as the machine hands them over: as bits, which come out as they went in.
use mathlib.Core.Path.{◌≡◌, refl, sym, ap, ◌∙◌, subst}
use Prim.Native.Nat.{ℕ, ◌≤◌, ◌^◌}
use native.Mathlib.Omega.{arith}
use mathlib.Core.Bool.{Bool, true, ◌&&◌}
use lib.Dec.{T, le→leb, lt→ltb}
use lib.IntN.{ℤ, pos, negsuc, nat_abs}
use lib.Signed.{lt_z}
use lib.Ieee.{binary32, in_float}
use mir.Syntax.{w32}
use mir.Val.{SFits, to_z, of_z}
use mir.Facts.{to_z-of_z}
use borrow.Author.Tests.{leb-true}
use Rattle.lists.proofs.Tests.{both}
use Rattle.edge.specs.Coordinates.{Found, found_in, ranged, biased_within}
use Rattle.std.specs.Prelude.{Option, Some, None, is_some}
use Rattle.draw.specs.Transforms.{float_position}
use Rattle.draw.specs.declared.Vector2.{Vector2}

abbrev handed : ℤ → ℤ
handed z = to_z w32 (of_z w32 z)

as_it_was : {z : ℤ} → SFits w32 z → handed z ≡ z
as_it_was {z} f = to_z-of_z {w = w32} {z = z} f

-- ---- what `held_coordinate` and `held_position` tell is the test

pub position_test : (limit : ℕ) {z : ℤ} (r : Option ℕ) → SFits w32 z → found_in r ≡ biased_within limit (handed z) → is_some r ≡ ranged limit z
unfolding biased_within
position_test limit r f e = told r ∙ ap (λ (p : Found). p.within) (e ∙ ap (biased_within limit) (as_it_was f))
  where
    told : (r : Option ℕ) → is_some r ≡ (found_in r).within
    told (Some n) = refl
    told None = refl

-- ---- a test r of a coordinate z that is handed over

pub record Tested (limit : ℕ) (z : ℤ) (r : Bool) : Type 0 where
  pub fits : SFits w32 z
  pub is : r ≡ ranged limit z

pub tested : (limit : ℕ) {z : ℤ} {r : Bool} → SFits w32 z → r ≡ ranged limit (handed z) → Tested limit z r
tested limit f e = record { fits = f; is = e ∙ ap (ranged limit) (as_it_was f) }

module _ {limit : ℕ} {z w : ℤ} {a b : Bool} (Z : Tested limit z a) (W : Tested limit w b) where
  pub less_test : {t : Bool} → lt_z (handed z) (handed w) ≡ t → lt_z z w ≡ t
  less_test e = sym (λ i. lt_z (as_it_was Z.fits i) (as_it_was W.fits i)) ∙ e

  pub converted : {p : Vector2} → p ≡ float_position (handed z) (handed w) → p ≡ float_position z w
  converted e = e ∙ (λ i. float_position (as_it_was Z.fits i) (as_it_was W.fits i))

-- where the test passes, z is as small as a position
abbrev pub Small : ℤ → Type 0
Small z = nat_abs (handed z) ≤ 6000

pub small : {limit : ℕ} {z : ℤ} {r : Bool} → Tested limit z r → limit ≤ 6000 → r ≡ true → Small z
small {limit} {z} Z h e = let k = leb-true (nat_abs z) limit (sym Z.is ∙ e) in subst (λ (x : ℤ). nat_abs x ≤ 6000) (sym (as_it_was Z.fits)) (omega arith)

module _ {limit : ℕ} {z w : ℤ} {a b : Bool} (Z : Tested limit z a) (W : Tested limit w b) where
  pub small_two : limit ≤ 6000 → (a && b) ≡ true → Small z × Small w
  small_two h t = let k = both a b t in (small Z h k.0, small W h k.1)

in_float_lem : (z : ℤ) → nat_abs z ≤ 6000 → T (in_float binary32 z)
unfolding in_float
in_float_lem (pos n) h = le→leb n (2 ^ 24) (omega arith)
in_float_lem (negsuc n) h = lt→ltb n (2 ^ 24) (omega arith)

pub float_holds : {z : ℤ} → SFits w32 z → nat_abs z ≤ 6000 → T (in_float binary32 (handed z))
float_holds {z} f h = subst (λ (y : ℤ). T (in_float binary32 y)) (sym (as_it_was f)) (in_float_lem z h)
