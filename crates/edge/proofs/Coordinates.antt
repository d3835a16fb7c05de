-- Where the coordinates of the document meet the numbers of rows.
use mathlib.Core.Path.{◌≡◌, refl, sym, ap, ◌∙◌, subst}
use Prim.Native.Nat.{ℕ, suc, ◌+◌, ◌-◌, ◌<◌, ◌≤◌, ◌^◌}
use native.Mathlib.Omega.{arith}
use mathlib.Core.Bool.{Bool, true, false, cond}
use mathlib.Core.Logic.{◌↔◌}
use Rattle.std.specs.Prelude.{Some, None}
use Rattle.std.specs.Bool.{then_some}
use lib.Dec.{T, leb}
use lib.IntN.{ℤ, pos, negsuc, nat_abs, sub_ℕ, ◌+ℤ◌, ◌-ℤ◌}
use lib.Signed.{lt_z, non_neg}
use mir.Syntax.{w16, w32}
use mir.Val.{SFits, Fits, to_z, of_z}
use mir.Facts.{to_z-of_z, to_z_pos}
use borrow.Author.Tests.{ltb-true, ltb-false, le-leb, lt-leb, leb-true, leb-false}
use Rattle.edge.specs.Coordinates.{to_ℕ, coord_of, biased, ranged, found, biased_within, is_position, Found, found_in}
use Rattle.lists.proofs.Tests.{reads_as, and_reads, leb_reads, same_test}
use Rattle.edge.proofs.Whole.{sub_pos, sub_neg, biased_sub, mag_sub}

-- what is found outside the range
abbrev pub nowhere : Found
nowhere = record { within = false; at = 0 }

held_as : (k : ℕ) (z : ℤ) {b : Bool} → ranged k z ≡ b → biased_within k z ≡ found b (biased z)
unfolding biased_within
held_as k z e = λ i. found (e i) (biased z)

pub outside : (k : ℕ) (z : ℤ) → k < nat_abs z → nowhere ≡ biased_within k z
outside k z h = sym (held_as k z (lt-leb (nat_abs z) k h))

pub within : (k : ℕ) (z : ℤ) → nat_abs z ≤ k → found true (biased z) ≡ biased_within k z
within k z h = sym (held_as k z (le-leb (nat_abs z) k h))

pub too_low : (k : ℕ) (z : ℤ) → lt_z z (negsuc k) ≡ true → suc k < nat_abs z
too_low k (pos n) e = absurd (subst T (sym e) tt)
too_low k (negsuc n) e = let h = ltb-true k n e in omega arith

pub too_high : (k : ℕ) (z : ℤ) → lt_z (pos k) z ≡ true → k < nat_abs z
too_high k (pos n) e = ltb-true k n e
too_high k (negsuc n) e = absurd (subst T (sym e) tt)

pub between : (k : ℕ) (z : ℤ) → lt_z z (negsuc k) ≡ false → lt_z (pos (suc k)) z ≡ false → nat_abs z ≤ suc k
between k (pos n) e f = ltb-false (suc k) n f
between k (negsuc n) e f = let h = ltb-false k n e in omega arith

-- 6,000 more
pub lifted : (z : ℤ) → nat_abs z ≤ 6000 → (z +ℤ pos 6000 ≡ pos (biased z)) × (biased z ≤ 12000)
unfolding biased
lifted (pos n) h = (refl, omega arith)
lifted (negsuc n) h =
    let e = sub_pos 6000 (suc n) h in
    let q : to_ℕ (sub_ℕ 6000 (suc n)) ≡ 6000 - suc n = ap to_ℕ e in
    (e ∙ ap pos (sym q), omega arith)

-- ---- a coordinate z as the machine reads it, tests it against the limits, and adds 6,000
module _ (z : ℤ) (f : SFits w32 z) where
  is : to_z w32 (of_z w32 z) ≡ z
  is = to_z-of_z {w = w32} {z = z} f

  pub low : lt_z (to_z w32 (of_z w32 z)) (negsuc 5999) ≡ true → nowhere ≡ biased_within 6000 z
  low e = outside 6000 z (too_low 5999 z (sym (λ i. lt_z (is i) (negsuc 5999)) ∙ e))

  pub high : lt_z (pos 6000) (to_z w32 (of_z w32 z)) ≡ true → nowhere ≡ biased_within 6000 z
  high e = outside 6000 z (too_high 6000 z (sym (λ i. lt_z (pos 6000) (is i)) ∙ e))

  module _ (e : lt_z (to_z w32 (of_z w32 z)) (negsuc 5999) ≡ false) (g : lt_z (pos 6000) (to_z w32 (of_z w32 z)) ≡ false) where
    inner : nat_abs z ≤ 6000
    inner = between 5999 z (sym (λ i. lt_z (is i) (negsuc 5999)) ∙ e) (sym (λ i. lt_z (pos 6000) (is i)) ∙ g)

    sum : to_z w32 (of_z w32 z) +ℤ pos 6000 ≡ pos (biased z)
    sum = (λ i. is i +ℤ pos 6000) ∙ (lifted z inner).0

    small : biased z ≤ 12000
    small = (lifted z inner).1

    pub sum_fits : SFits w32 (to_z w32 (of_z w32 z) +ℤ pos 6000)
    sum_fits = let h = small in subst (SFits w32) (sym sum) (record { sfits = omega arith })

    read : to_z w32 (of_z w32 (to_z w32 (of_z w32 z) +ℤ pos 6000)) ≡ pos (biased z)
    read = let h = small in ap (λ (y : ℤ). to_z w32 (of_z w32 y)) sum ∙ to_z_pos w32 (omega arith)

    pub cast_fits : T (non_neg (to_z w32 (of_z w32 (to_z w32 (of_z w32 z) +ℤ pos 6000)))) × Fits w16 (nat_abs (to_z w32 (of_z w32 (to_z w32 (of_z w32 z) +ℤ pos 6000))))
    cast_fits = let h = small in subst (λ (y : ℤ). T (non_neg y) × Fits w16 (nat_abs y)) (sym read) (tt, record { fits = omega arith })

    pub held : found true (nat_abs (to_z w32 (of_z w32 (to_z w32 (of_z w32 z) +ℤ pos 6000)))) ≡ biased_within 6000 z
    held = ap (λ (y : ℤ). found true (nat_abs y)) read ∙ within 6000 z inner

-- ---- a component's range is the narrower one
narrow : (m n : ℕ) → (m ≤ 5800) ↔ ((200 ≤ n) × (n ≤ 11800)) → leb m 5800 ≡ is_position n
narrow m n e = same_test (reads_as e (leb_reads m 5800)) (and_reads (leb_reads 200 n) (leb_reads n 11800))

pub narrow_test : (z : ℤ) → nat_abs z ≤ 6000 → leb (nat_abs z) 5800 ≡ is_position (biased z)
unfolding biased
narrow_test (pos n) h = narrow n (n + 6000) (λ l. (omega arith, omega arith), λ t. omega arith)
narrow_test (negsuc n) h =
    let e : to_ℕ (sub_ℕ 6000 (suc n)) ≡ 6000 - suc n = ap to_ℕ (sub_pos 6000 (suc n) h) in
    narrow (suc n) (to_ℕ (sub_ℕ 6000 (suc n))) (λ l. (omega arith, omega arith), λ t. omega arith)

chosen : (b : Bool) (n : ℕ) → cond b (found true n) nowhere ≡ found b n
chosen true n = refl
chosen false n = refl

-- what `held_coordinate` finds, if it is a position, is what the narrower range asks
narrowed : (z : ℤ) (p : Found) {b : Bool} → p ≡ biased_within 6000 z → is_position p.at ≡ b → cond b p nowhere ≡ biased_within 5800 z
narrowed z p {b} e t = go (leb (nat_abs z) 6000) refl
  where
    far : (b : Bool) → cond b nowhere nowhere ≡ nowhere
    far true = refl
    far false = refl

    go : (c : Bool) → leb (nat_abs z) 6000 ≡ c → cond b p nowhere ≡ biased_within 5800 z
    go true l =
        let h = leb-true (nat_abs z) 6000 l in
        let q : p ≡ found true (biased z) = e ∙ sym (within 6000 z h) in
        ap (λ (f : Found). cond b f nowhere) q ∙ chosen b (biased z) ∙ sym (held_as 5800 z (narrow_test z h ∙ sym (ap (λ (f : Found). is_position f.at) q) ∙ t))
    go false l =
        let h = leb-false (nat_abs z) 6000 l in
        ap (λ (f : Found). cond b f nowhere) (e ∙ sym (outside 6000 z h)) ∙ far b ∙ outside 5800 z (omega arith)

-- the two ways of `held_position`; a coordinate that is handed on comes out of its bits as it was
module _ (z : ℤ) (f : SFits w32 z) where
  handed : biased_within 6000 (to_z w32 (of_z w32 z)) ≡ biased_within 6000 z
  handed = ap (biased_within 6000) (to_z-of_z {w = w32} {z = z} f)

  pub narrowed_none : found_in None ≡ biased_within 6000 (to_z w32 (of_z w32 z)) → found_in None ≡ biased_within 5800 z
  narrowed_none e = narrowed z nowhere (e ∙ handed) refl

  pub narrowed_some : (n : ℕ) → found_in (Some n) ≡ biased_within 6000 (to_z w32 (of_z w32 z)) → found_in (then_some (is_position n) n) ≡ biased_within 5800 z
  narrowed_some n e = told (is_position n) ∙ narrowed z (found true n) {b = is_position n} (e ∙ handed) refl
    where
      told : (b : Bool) → found_in (then_some b n) ≡ cond b (found true n) nowhere
      told true = refl
      told false = refl

-- ---- there and back
pub back : (z : ℤ) → nat_abs z ≤ 6000 → coord_of (biased z) ≡ z
unfolding biased
back (pos n) h = sub_pos (n + 6000) 6000 (omega arith) ∙ (let e : n + 6000 - 6000 ≡ n = omega arith in ap pos e)
back (negsuc n) h =
    let e : to_ℕ (sub_ℕ 6000 (suc n)) ≡ 6000 - suc n = ap to_ℕ (sub_pos 6000 (suc n) h) in
    ap coord_of e ∙ sub_neg (6000 - suc n) 6000 (omega arith) ∙ (let q : 6000 - suc (6000 - suc n) ≡ n = omega arith in ap negsuc q)

pub there : (n : ℕ) → biased (coord_of n) ≡ n
there n = let e : n + 6000 - 6000 ≡ n = omega arith in biased_sub n 6000 ∙ e

-- ---- the coordinate of a u16, as the machine makes it
pub shown_fits : (n : ℕ) → n < 2 ^ 16 → SFits w32 (to_z w32 n -ℤ pos 6000)
shown_fits n h =
    let m = mag_sub n 6000 in
    subst (SFits w32) (sym (λ i. to_z_pos w32 {n = n} (omega arith) i -ℤ pos 6000)) (record { sfits = omega arith })

pub shown : (n : ℕ) → n < 2 ^ 16 → to_z w32 (of_z w32 (to_z w32 n -ℤ pos 6000)) ≡ coord_of n
shown n h = to_z-of_z {w = w32} {z = to_z w32 n -ℤ pos 6000} (shown_fits n h) ∙ (λ i. to_z_pos w32 {n = n} (omega arith) i -ℤ pos 6000)
