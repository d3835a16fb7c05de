-- What an answer is read as leaves one answer: so an equation about that determines what is answered.
use mathlib.Core.Path.{◌≡◌, sym, ap, subst}
use Rattle.std.specs.Prelude.{Option, Some, None}
use lib.Dec.{T}
use Rattle.sketch.specs.Sketches.{Added, added_as}
use Rattle.sketch.specs.declared.Sketch.{Sketch}

module _ (s : Sketch) where
  -- what is read of None is not held
  apart : {A : Type 0} (t : Sketch) → added_as s (Some t) ≡ added_as s None → A
  apart t e = absurd (subst T (ap (λ (a : Added). a.held) e) tt)

  pub one_added : (q r : Option Sketch) → added_as s q ≡ added_as s r → q ≡ r
  one_added (Some t) (Some u) e = ap Some (ap (λ (a : Added). a.sketch) e)
  one_added (Some t) None e = apart t e
  one_added None (Some u) e = apart u (sym e)
  one_added None None e = λ i. None
