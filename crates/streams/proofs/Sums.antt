-- The sum of bytes handed over: of one run behind another, and of one byte more.
use mathlib.Core.Path.{◌≡◌, refl, sym, ap, ◌∙◌}
use mathlib.Core.List.{List, [], ◌∷◌, ◌++◌}
use Prim.Native.Nat.{ℕ, ◌+◌, ◌<◌}
use native.Mathlib.Numerals.{add-one}
use lib.ListN.{length, drop, get_or}
use lib.Seq.{drop-cons, drop-length}
use Rattle.streams.specs.Sums.{next_sum, sum_of}

pub sum_append : (s : ℕ) (a b : List ℕ) → sum_of s (a ++ b) ≡ sum_of (sum_of s a) b
unfolding sum_of
sum_append s [] b = refl
sum_append s (x ∷ a) b = sum_append (next_sum s x) a b

-- for the loop: the sum so far and the bytes from i on
module _ (block : List ℕ) (s i : ℕ) where
  pub sum_on : {s' : ℕ} → i < length block → s' ≡ next_sum s (get_or block i 0) → sum_of s' (drop (i + 1) block) ≡ sum_of s (drop i block)
  unfolding sum_of
  sum_on h e = ap (λ x. sum_of x (drop (i + 1) block)) e ∙ ap (sum_of s) (sym (drop-cons block i 0 h ∙ ap (λ k. get_or block i 0 ∷ drop k block) (sym (add-one i))))

  pub sum_end : i ≡ length block → sum_of s (drop i block) ≡ s
  unfolding sum_of
  sum_end e = ap (λ k. sum_of s (drop k block)) e ∙ ap (sum_of s) (drop-length block)
