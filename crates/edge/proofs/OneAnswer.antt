-- What an answer is read as leaves one answer: so an equation about that determines what is answered.
use mathlib.Core.Path.{◌≡◌, sym, ap}
use mathlib.Core.Bool.{Bool, true, false, cond}
use Prim.Native.Nat.{ℕ}
use Rattle.std.specs.Prelude.{Option, Some, None}
use lib.Dec.{T}
use mathlib.Core.Path.{subst}
use Rattle.edge.specs.Coordinates.{Found, found_in, SizeAnswer, sized}

-- what is read of None is no coordinate
apart : {A : Type 0} (n : ℕ) → found_in (Some n) ≡ found_in None → A
apart n e = absurd (subst T (ap (λ (f : Found). f.within) e) tt)

pub one_found : (r s : Option ℕ) → found_in r ≡ found_in s → r ≡ s
one_found (Some m) (Some n) e = ap Some (ap (λ (f : Found). f.at) e)
one_found (Some m) None e = apart m e
one_found None (Some n) e = apart n (sym e)
one_found None None e = λ i. None
