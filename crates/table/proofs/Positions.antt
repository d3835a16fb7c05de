-- The place of the first row that passes a test, or the number of all rows.
use Rattle.std.proofs.Common.{ℕ, ◌+◌, suc, ◌≤◌, ◌<◌, ◌≡◌, ◌∙◌, refl, sym, ap, Bool, true, false, cond, not, List, [], ◌∷◌, length, arith}
use Rattle.std.specs.List.{position, position_or_len, prefix_len}
use Rattle.std.specs.Option.{unwrap_or}
use Rattle.std.specs.Prelude.{ltb, Option, Some, None}
use Rattle.std.proofs.lemmas.Bool.{ltb-false}
use Rattle.lists.specs.Span.{span}
use Rattle.lists.proofs.Insert.{span_le}

place_of : (k n : ℕ) → k ≤ n → unwrap_or (cond (ltb k n) (Some k) None) n ≡ k
place_of k n h = step (ltb k n) refl
  where
    step : (b : Bool) → ltb k n ≡ b → unwrap_or (cond b (Some k) None) n ≡ k
    step true e = refl
    step false e = let no : n ≤ k = ltb-false k n e in omega arith

module _ {A : Type 0} where
  span_prefix : (f : A → Bool) (xs : List A) → span f xs ≡ prefix_len f xs
  unfolding span
  span_prefix f [] = refl
  span_prefix f (x ∷ xs) = let e : suc (span f xs) ≡ 1 + prefix_len f xs = omega (arith, span_prefix f xs) in ap (λ (k : ℕ). cond (f x) k 0) e

  pub place_is : (f : A → Bool) (xs : List A) → unwrap_or (position f xs) (length xs) ≡ span (λ y. not (f y)) xs
  place_is f xs = let e = span_prefix (λ y. not (f y)) xs in place_of (position_or_len f xs) (length xs) (omega (arith, e, span_le (λ y. not (f y)) xs)) ∙ sym e
