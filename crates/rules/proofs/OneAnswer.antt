-- What an answer is read as leaves one answer: so an equation about that determines what is answered.
use mathlib.Core.Path.{◌≡◌, sym, ap, subst}
use Prim.Native.Nat.{ℕ}
use Rattle.std.specs.Prelude.{Option, Some, None}
use lib.Dec.{T}
use Rattle.rules.specs.Touching.{Touching, as_touching}

-- what is read of None is no pair
apart : {A : Type 0} (p : ℕ × ℕ) → as_touching (Some p) ≡ as_touching None → A
apart p e = absurd (subst T (ap (λ (t : Touching). t.found) e) tt)

pub one_touching : (r s : Option (ℕ × ℕ)) → as_touching r ≡ as_touching s → r ≡ s
one_touching (Some p) (Some q) e = λ i. Some ((e i).first, (e i).second)
one_touching (Some p) None e = apart p e
one_touching None (Some q) e = apart q (sym e)
one_touching None None e = λ i. None
