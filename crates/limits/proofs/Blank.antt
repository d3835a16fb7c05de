-- A label of zeros, as one compared with zeros.
use Prim.Native.Nat.{ℕ}
use mathlib.Core.Path.{◌≡◌, refl, sym, ap, ◌∙◌}
use mathlib.Core.Bool.{◌&&◌}
use mathlib.Core.List.{List, [], ◌∷◌}
use lib.Dec.{eqb}
use lib.ListN.{length, replicate}
use lib.Pointwise.{pointwise}
use Rattle.label.specs.Labels.{all_zero}

zeros : (l : List ℕ) → pointwise eqb l (replicate (length l) 0) ≡ all_zero l
zeros [] = refl
zeros (b ∷ l) = ap (λ r. eqb b 0 && r) (zeros l)

pub zero_label : (l : List ℕ) → length l ≡ 16 → pointwise eqb l (replicate 16 0) ≡ all_zero l
zero_label l e = ap (λ (n : ℕ). pointwise eqb l (replicate n 0)) (sym e) ∙ zeros l
