-- A walk to the first row that passes.
use Rattle.std.proofs.Common.{ℕ, ◌<◌, ◌≤◌, ◌≡◌, ◌∙◌, sym, ap, subst, Bool, true, false, not, List, length, take, get_or, refl, arith}
use Rattle.std.specs.List.{list_any}
use Rattle.std.specs.Prelude.{ltb}
use borrow.Author.Tests.{lt-ltb, le-ltb}
use lib.Seq.{take_all}
use Rattle.lists.specs.First.{first_row}
use Rattle.lists.proofs.First.{first_below}
use Rattle.lists.proofs.Walks.{Searched, span_stop, span_end}

module _ {A : Type 0} (f : A → Bool) (l : List A) {i : ℕ} (s : Searched (λ x. not (f x)) l (length l) i) where
  all : take (length l) l ≡ l
  all = take_all (length l) l (omega arith)

  pub walk_found : (d : A) → f (get_or l i d) ≡ true → i < length l → (list_any f l ≡ true) × (i ≡ first_row f l)
  walk_found d e h =
      let at = span_stop d s (ap not e) h (omega arith) in
      (sym (first_below f l (length l) at (omega arith) ∙ ap (list_any f) all) ∙ lt-ltb i (length l) h, at ∙ ap (first_row f) all)

  pub walk_none : length l ≤ i → list_any f l ≡ false
  walk_none h = let at = span_end s h (omega arith) in sym (first_below f l (length l) at (omega arith) ∙ ap (list_any f) all) ∙ le-ltb i (length l) h
