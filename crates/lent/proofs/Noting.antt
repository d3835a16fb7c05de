-- What a lent tally holds after an answer.
use mathlib.Core.Path.{◌≡◌, refl}
use lib.Dec.{T as Holds, eqb}
use Rattle.lists.proofs.Tests.{test, choose}
use Rattle.lent.specs.Noting.{noted}
use Rattle.sheet.specs.declared.Tally.{Tally}
use Rattle.redraw.specs.declared.Edited.{Edited}

-- after reply 0 it is the answer's tally
pub taken : (h : Tally) (e : Edited) → Holds (eqb e.reply 0) → e.tally ≡ noted h e
unfolding noted
taken h e p = choose (test (eqb e.reply 0)) (λ (x : Tally). e.tally ≡ x) (λ _. refl) (λ n. absurd (n p))
