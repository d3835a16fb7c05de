-- The values of an answer tell which shape it is, or that it is none: so the contract of `shape` determines what is chosen.
use mathlib.Core.Path.{◌≡◌, refl, sym, ◌∙◌}
use mathlib.Core.List.{List, [], ◌∷◌}
use lib.Ieee.{Float}
use Rattle.draw.specs.Answers.{chosen, shape_is, no_shape}
use Rattle.draw.specs.Symbols.{vector}
use Rattle.draw.specs.declared.Draw.{Draw}
use Rattle.draw.specs.declared.Draw.TheVariants.{Line, Circle}
use Rattle.std.specs.Prelude.{Option, Some, None}
use Rattle.std.proofs.lemmas.Option.{same_Some, none-some}

-- four values are a circle's, five a line's
unfoldable pub choice_in : List Float → Option Draw
choice_in [] = None
choice_in (a ∷ []) = None
choice_in (a ∷ (b ∷ [])) = None
choice_in (a ∷ (b ∷ (c ∷ []))) = None
choice_in (a ∷ (b ∷ (c ∷ (d ∷ [])))) = Some (Circle (vector a b) c d)
choice_in (a ∷ (b ∷ (c ∷ (d ∷ (e ∷ l))))) = Some (Line (vector a b) (vector c d) e)

pub told : (r : Option Draw) → choice_in (chosen r).values ≡ r
unfolding choice_in
told (Some (Line p q width)) = refl
told (Some (Circle p radius width)) = refl
told None = refl

pub one_choice : (r s : Option Draw) → chosen r ≡ chosen s → r ≡ s
one_choice r s e = sym (told r) ∙ (λ i. choice_in (e i).values) ∙ told s

pub one_draw : (d e : Draw) → shape_is d ≡ shape_is e → d ≡ e
one_draw d e p = let q : Some d ≡ Some e = one_choice (Some d) (Some e) p in same_Some d e q

pub no_draw : (d : Draw) → no_shape ≡ shape_is d → ⊥
no_draw d p = let q : None ≡ Some d = one_choice None (Some d) p in none-some d q
