-- A number as a call gets it: whether it is in its range, and then the row's number.
use Prim.Native.Nat.{ℕ}
use mathlib.Core.Bool.{Bool, true, false, cond}
use mathlib.Core.Path.{◌≡◌, refl, sym, ap, subst, ◌∙◌}
use lib.Dec.{eqb, leb}
use lib.IntN.{ℤ, pos, negsuc}
use lib.Signed.{le_z}
use mir.Syntax.{w32}
use mir.Val.{SFits}
use mir.Facts.{to_z-of_z}
use Rattle.std.specs.Prelude.{Option, Some, None, Result, Ok, Err}
use Rattle.std.specs.Option.{ok_or}
use Rattle.refusal.specs.Numbers.{number_of}
use Rattle.refusal.specs.declared.Refusal.{Refusal}
use Rattle.refusal.specs.declared.Refusal.TheVariants.{CoordinateOutside, SizeOutside}
use Rattle.edge.specs.Coordinates.{Found, biased, ranged, found, found_in, biased_within, to_ℕ, SizeAnswer, size_is, no_size, size_of, sized}
use Rattle.asked.specs.Rows.{row_of, size_row}
use Rattle.asked.proofs.Handed.{bits, handed_two}

-- the size that is found is the number itself
size_read : (z : ℤ) → cond (eqb (size_of z).reply 0) (Ok (size_of z).size) (Err SizeOutside) ≡ size_row z
unfolding size_of
size_read (negsuc n) = refl
size_read (pos n) = go (leb n 1000)
  where
    go : (b : Bool) → cond (eqb (cond b (size_is n) no_size).reply 0) (Ok (cond b (size_is n) no_size).size) (Err SizeOutside) ≡ cond (eqb (cond b (size_is n) no_size).reply 0) (Ok n) (Err SizeOutside)
    go true = refl
    go false = refl

-- ---- what `edge` finds, or the refusal
module _ (z : ℤ) (f : SFits w32 z) (r : Option ℕ) where
  pub row_found : (k : ℕ) → found_in r ≡ biased_within k (bits z) → ok_or r CoordinateOutside ≡ row_of k z
  unfolding biased_within
  row_found k e = told r ∙ ap as_row (e ∙ ap (biased_within k) (to_z-of_z {w = w32} {z = z} f)) ∙ go (ranged k z)
    where
      as_row : Found → Result ℕ Refusal
      as_row p = cond p.within (Ok p.at) (Err CoordinateOutside)

      told : (r : Option ℕ) → ok_or r CoordinateOutside ≡ as_row (found_in r)
      told (Some n) = refl
      told None = refl

      go : (b : Bool) → as_row (found b (biased z)) ≡ cond b (Ok (biased z)) (Err CoordinateOutside)
      go true = refl
      go false = refl

  pub size_found : sized r ≡ size_of (bits z) → ok_or r SizeOutside ≡ size_row z
  size_found e = told r ∙ ap as_row (e ∙ ap size_of (to_z-of_z {w = w32} {z = z} f)) ∙ size_read z
    where
      as_row : SizeAnswer → Result ℕ Refusal
      as_row s = cond (eqb s.reply 0) (Ok s.size) (Err SizeOutside)

      told : (r : Option ℕ) → ok_or r SizeOutside ≡ as_row (sized r)
      told (Some n) = refl
      told None = refl

-- ---- what an answer tells of the test b that decides it: it passes and the answer is n, or it fails and the refusal has the number e
abbrev pub Tells : Bool → ℕ → ℕ → Result ℕ Refusal → Type 0
Tells b n e (Ok m) = (b ≡ true) × (m ≡ n)
Tells b n e (Err r) = (b ≡ false) × (number_of r ≡ e)

chosen : (b : Bool) (n : ℕ) (e : Refusal) → Tells b n (number_of e) (cond b (Ok n) (Err e))
chosen true n e = (refl, refl)
chosen false n e = (refl, refl)

-- z as it is handed on comes out of its bits as it was
module _ {z : ℤ} (f : SFits w32 z) {r : Result ℕ Refusal} where
  pub row_tells : (k : ℕ) → r ≡ row_of k (bits z) → Tells (ranged k z) (biased z) 1 r
  row_tells k e = subst (Tells (ranged k z) (biased z) 1) (sym (e ∙ ap (row_of k) (to_z-of_z {w = w32} {z = z} f))) (chosen (ranged k z) (biased z) CoordinateOutside)

  pub size_tells : r ≡ size_row (bits z) → Tells (eqb (size_of z).reply 0) (to_ℕ z) 3 r
  size_tells e = subst (Tells (eqb (size_of z).reply 0) (to_ℕ z) 3) (sym (e ∙ ap size_row (to_z-of_z {w = w32} {z = z} f))) (chosen (eqb (size_of z).reply 0) (to_ℕ z) SizeOutside)

-- and so do two numbers that are compared
pub order_kept : (a b : ℤ) → SFits w32 a → SFits w32 b → {t : Bool} → le_z (bits a) (bits b) ≡ t → le_z a b ≡ t
order_kept a b f g e = sym (handed_two le_z a b f g) ∙ e
