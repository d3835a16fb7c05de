-- A shape asked for by its place in a list that is mapped: the shape there, mapped, or none past the last.
use mathlib.Core.Path.{◌≡◌, refl, sym, ap}
use Prim.Native.Nat.{ℕ, zero, suc}
use mathlib.Core.List.{List, [], ◌∷◌, map}
use Rattle.draw.specs.declared.Draw.{Draw}
use Rattle.draw.specs.Answers.{shape_is, no_shape, asked}
use Rattle.draw.proofs.Answers.{one_draw, no_draw}

pub asked_at : (f : Draw → Draw) (ds : List Draw) (i : ℕ) (r : Draw) → shape_is r ≡ asked i ds → shape_is (f r) ≡ asked i (map f ds)
unfolding asked
asked_at f [] i r e = absurd (no_draw r (sym e))
asked_at f (d ∷ ds) zero r e = ap (λ (x : Draw). shape_is (f x)) (one_draw r d e)
asked_at f (d ∷ ds) (suc i) r e = asked_at f ds i r e

pub asked_past : (f : Draw → Draw) (ds : List Draw) (i : ℕ) → no_shape ≡ asked i ds → no_shape ≡ asked i (map f ds)
unfolding asked
asked_past f [] i e = refl
asked_past f (d ∷ ds) zero e = absurd (no_draw d e)
asked_past f (d ∷ ds) (suc i) e = asked_past f ds i e
