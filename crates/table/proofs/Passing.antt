-- A pass over all rows of a slice.
use Rattle.std.proofs.Common.{ℕ, ◌+◌, ◌≤◌, ◌<◌, ◌≡◌, List, length, take, get_or, subst, arith}
use Rattle.std.specs.List.{flat_map}
use lib.Seq.{take_all}
use Rattle.lists.proofs.Passes.{Pass, pass_room}

module _ {A B S : Type 0} {H : List B → S → Type 0} {g : A → List B} {l : List A} {i : ℕ} {s : S} where
  -- at the end: what g gives for all rows
  pub pass_all : Pass H g l i s → length l ≤ i → H (flat_map g l) s
  pass_all p h = subst (λ (r : List A). H (flat_map g r) s) (take_all i l h) p.so_far

  -- a row gives ys: what was gathered and ys together are no more than what all rows give
  pub pass_whole : {ys : List B} (d : A) → Pass H g l i s → g (get_or l i d) ≡ ys → i < length l → length (flat_map g (take i l)) + length ys ≤ length (flat_map g l)
  pass_whole {ys} d p e h =
      let same : take (length l) l ≡ l = take_all (length l) l (omega arith) in
      subst (λ (r : List A). length (flat_map g (take i l)) + length ys ≤ length (flat_map g r)) same (pass_room (length l) d p e h h)
