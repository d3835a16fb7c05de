-- No refusal has the number 0, which says that a call is done, and no two have one number.
use mathlib.Core.Path.{◌≡◌, refl, sym, ap, ◌∙◌}
use mathlib.Core.List.{[], ◌∷◌}
use Prim.Native.Nat.{ℕ, ◌<◌}
use lib.ListN.{get_or}
use lib.Dec.{T, ltb, ltb→lt}
use native.Mathlib.Omega.{arith}
use Rattle.std.specs.Prelude.{Result, Ok, Err}
use Rattle.refusal.specs.Numbers.{number_of, answered}
use Rattle.refusal.specs.declared.Refusal.{Refusal}
use Rattle.refusal.specs.declared.Refusal.TheVariants.{CoordinateOutside, StartPastEnd, SizeOutside, UnknownSymbol, BadLabel, BoxTouches, TooManyComponents, BufferTooShort, Unlawful, Unreadable, TooManyWires, FileEnds, FileWrong, BytesBehind}

tested : (r : Refusal) → T (ltb 0 (number_of r))
tested CoordinateOutside = tt
tested StartPastEnd = tt
tested SizeOutside = tt
tested UnknownSymbol = tt
tested BadLabel = tt
tested BoxTouches = tt
tested TooManyComponents = tt
tested BufferTooShort = tt
tested Unlawful = tt
tested Unreadable = tt
tested TooManyWires = tt
tested FileEnds = tt
tested FileWrong = tt
tested BytesBehind = tt

pub refuses : (r : Refusal) → 0 < number_of r
refuses r = ltb→lt 0 (number_of r) (tested r)

-- the refusal of a number
numbered : ℕ → Refusal
numbered n = get_or (Unreadable ∷ CoordinateOutside ∷ StartPastEnd ∷ SizeOutside ∷ UnknownSymbol ∷ BadLabel ∷ BoxTouches ∷ TooManyComponents ∷ BufferTooShort ∷ Unlawful ∷ Unreadable ∷ TooManyWires ∷ FileEnds ∷ FileWrong ∷ BytesBehind ∷ []) n Unreadable

told : (r : Refusal) → numbered (number_of r) ≡ r
unfolding numbered
told CoordinateOutside = refl
told StartPastEnd = refl
told SizeOutside = refl
told UnknownSymbol = refl
told BadLabel = refl
told BoxTouches = refl
told TooManyComponents = refl
told BufferTooShort = refl
told Unlawful = refl
told Unreadable = refl
told TooManyWires = refl
told FileEnds = refl
told FileWrong = refl
told BytesBehind = refl

pub one_refusal : (r s : Refusal) → number_of r ≡ number_of s → r ≡ s
one_refusal r s e = sym (told r) ∙ ap numbered e ∙ told s

-- ---- what an answer's number and values say leaves one answer: right and refused give them, number tells the number, and what is right is told apart by its values
module _ {A B : Type 0} (right : A → B) (refused : ℕ → B) (number : B → ℕ) (none : (a : A) → number (right a) ≡ 0) (tells : (n : ℕ) → number (refused n) ≡ n) (one : (a b : A) → right a ≡ right b → a ≡ b) where
  apart : (a : A) (s : Refusal) → right a ≡ refused (number_of s) → ⊥
  apart a s e = let h = refuses s in let q : 0 ≡ number_of s = sym (none a) ∙ ap number e ∙ tells (number_of s) in omega arith

  pub one_answered : (r s : Result A Refusal) → answered right refused r ≡ answered right refused s → r ≡ s
  one_answered (Ok a) (Ok b) e = ap Ok (one a b e)
  one_answered (Ok a) (Err s) e = absurd (apart a s e)
  one_answered (Err r) (Ok b) e = absurd (apart b r (sym e))
  one_answered (Err r) (Err s) e = ap Err (one_refusal r s (sym (tells (number_of r)) ∙ ap number e ∙ tells (number_of s)))
