-- KIND outside 0 to 2 or ORIENT outside 0 to 7 gets 4, whatever else the line says: `outside_four`.
use mathlib.Core.Path.{◌≡◌, refl}
use mathlib.Core.Bool.{Bool, true, false, ◌&&◌}
use mathlib.Core.Logic.{◌⊎◌, inl, inr}
use Prim.Native.Nat.{ℕ, ◌<◌}
use lib.Dec.{leb, ltb}
use lib.IntN.{ℤ, pos, negsuc}
use borrow.Author.Tests.{lt-leb, le-ltb}
use Rattle.lists.proofs.Tests.{choose, ltb_reads}
use Rattle.label.specs.declared.Label.{Label}
use Rattle.symbol.specs.Replies.{symbol_reply, component_reply}
use Rattle.sheet.specs.declared.Drawing.{Drawing}
use Rattle.sheet.specs.declared.Tally.{Tally}
use Rattle.redraw.specs.Calls.{refused, add_component}
use Rattle.step.specs.Steps.{choice_of}

-- a number outside 0 to m
pub data Outside (m : ℕ) : ℤ → Type 0 where
  above : {n : ℕ} → m < n → Outside m (pos n)
  below : {n : ℕ} → Outside m (negsuc n)

no_kind : {z : ℤ} → Outside 2 z → leb (choice_of z) 2 ≡ false
unfolding choice_of
no_kind (above {n} h) = choose (ltb_reads n 8) (λ k. leb k 2 ≡ false) (λ _. lt-leb n 2 h) (λ _. refl)
no_kind below = refl

no_orientation : {z : ℤ} → Outside 7 z → ltb (choice_of z) 8 ≡ false
unfolding choice_of
no_orientation (above {n} h) = rw (le-ltb n 8 h)
no_orientation below = refl

and_false : (a : Bool) {b : Bool} → b ≡ false → a && b ≡ false
and_false true e = e
and_false false e = refl

pub outside_four : (d : Drawing) (kind orient x y : ℤ) (b : Label) (t : Tally) → Outside 2 kind ⊎ Outside 7 orient
    → add_component d (choice_of kind) (choice_of orient) x y b t ≡ refused 4 d t
unfolding add_component component_reply symbol_reply
outside_four d kind orient x y b t (inl o) = rw (no_kind o)
outside_four d kind orient x y b t (inr o) = rw (and_false (leb (choice_of kind) 2) (no_orientation o))
