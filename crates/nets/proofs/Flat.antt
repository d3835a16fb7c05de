-- One pass to the roots: places below n have the root, the others still their alias.
use mathlib.Core.Path.{◌≡◌, refl, sym, ap, ◌∙◌}
use mathlib.Core.Logic.{⊎_elim}
use mathlib.Core.List.{List}
use Prim.Native.Nat.{ℕ, ◌+◌, ◌≤◌, ◌<◌}
use native.Mathlib.Nat.{eq-or-lt_of_le, le_refl}
use native.Mathlib.Omega.{arith}
use lib.ListN.{length, get_or, set, length-set}
use lib.Seq.{get_or-set_other}
use Rattle.nets.specs.Tables.{Falling, root_of, tabulate}
use Rattle.nets.proofs.Tabulate.{after_set, tabulated}
use Rattle.nets.proofs.Roots.{root_still, root_step}

pub record Flattened (al : List ℕ) (n : ℕ) (nets : List ℕ) : Type 0 where
  pub long : length nets ≡ 1409
  pub past : (j : ℕ) → j < n → get_or nets j 0 ≡ root_of al j
  pub rest : (j : ℕ) → n ≤ j → get_or nets j 0 ≡ get_or al j 0

pub flat_start : (al : List ℕ) → length al ≡ 1409 → Flattened al 0 al
flat_start al len = record { long = len; past = λ j lt. absurd (omega arith); rest = λ j le. refl }

module _ (al : List ℕ) (f : Falling al) (n : ℕ) (nets : List ℕ) (h : Flattened al n nets) where
  pub flat_low : get_or nets n 0 ≤ n
  flat_low = omega (arith, h.rest n (le_refl n), f.low n)

  flat_root : get_or nets (get_or nets n 0) 0 ≡ root_of al n
  flat_root =
      let e : get_or nets n 0 ≡ get_or al n 0 = h.rest n (le_refl n) in
      ap (λ j. get_or nets j 0) e ∙ ⊎_elim
      (λ still. ap (λ j. get_or nets j 0) still ∙ e ∙ still ∙ sym (root_still al n still))
      (λ lt. h.past (get_or al n 0) lt ∙ sym (root_step al f n))
      (eq-or-lt_of_le (f.low n))

  pub flat_next : n < 1409 → Flattened al (n + 1) (set nets n (get_or nets (get_or nets n 0) 0))
  flat_next inside =
      let v = get_or nets (get_or nets n 0) 0 in
      let here : n < length nets = omega (arith, h.long) in
      record {
        long = length-set nets n v ∙ h.long;
        past = λ j lt. after_set nets n v j (root_of al j) here (λ e. flat_root ∙ ap (root_of al) (sym e)) (λ ne. h.past j (omega (arith, ne)));
        rest = λ j le. get_or-set_other nets n j v 0 (λ e. omega (arith, e)) ∙ h.rest j (omega arith);
      }

pub flat_end : (al : List ℕ) (n : ℕ) (nets : List ℕ) → 1409 ≤ n → Flattened al n nets → nets ≡ tabulate (root_of al) 1409
flat_end al n nets le h = tabulated nets (root_of al) 1409 h.long (λ j lt. h.past j (omega arith))
