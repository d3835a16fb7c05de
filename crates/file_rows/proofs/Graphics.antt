-- A byte that a label may have, at an index.
use mathlib.Core.Path.{◌≡◌, sym, ap, ◌∙◌}
use mathlib.Core.Bool.{true, false}
use mathlib.Core.List.{List, ◌∷◌}
use Prim.Native.Nat.{ℕ, ◌+◌, ◌≤◌, ◌<◌}
use native.Mathlib.Numerals.{add-one}
use lib.ListN.{length, get_or, drop, drop_of_length-le}
use lib.Seq.{drop-cons}
use Rattle.label.specs.Labels.{graphic}
use Rattle.groups.specs.Taken.{took, refused, if}
use Rattle.saved.specs.Reading.{take_graphic}

module _ (s : List ℕ) (at : ℕ) where
  pub graphic_past : length s ≤ at → refused 12 ≡ take_graphic (drop at s)
  unfolding take_graphic
  graphic_past h = sym (ap take_graphic (drop_of_length-le s h))

  module _ (h : at < length s) where
    here : drop at s ≡ get_or s at 0 ∷ drop (at + 1) s
    here = drop-cons s at 0 h ∙ ap (λ k. get_or s at 0 ∷ drop k s) (sym (add-one at))

    pub graphic_yes : graphic (get_or s at 0) ≡ true → took (get_or s at 0) (drop (at + 1) s) ≡ take_graphic (drop at s)
    unfolding take_graphic
    graphic_yes g = sym (ap take_graphic here ∙ (λ i. if (g i) (get_or s at 0) (drop (at + 1) s)))

    pub graphic_no : graphic (get_or s at 0) ≡ false → refused 13 ≡ take_graphic (drop at s)
    unfolding take_graphic
    graphic_no g = sym (ap take_graphic here ∙ (λ i. if (g i) (get_or s at 0) (drop (at + 1) s)))

pub ruleset graphic_reads = (graphic_past, graphic_yes, graphic_no)
