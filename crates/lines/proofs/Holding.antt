-- The steps of `hold` and `bring`, and that holding 81 bytes is taking the first 81 of the line.
use mathlib.Core.Path.{◌≡◌}
use mathlib.Core.Logic.{⊎_elim}
use mathlib.Core.List.{List, [], ◌∷◌, ◌++◌}
use Prim.Native.Nat.{ℕ, ◌+◌, ◌<◌, ◌≤◌}
use native.Mathlib.Numerals.{add-one}
use native.Mathlib.Omega.{arith}
use borrow.Author.Tests.{lt-ltb, le-ltb, eq-eqb, ne_eqb}
use lib.ListN.{length, get_or, take, drop, set, drop_of_length-le, length-append}
use lib.Seq.{drop-cons, take-suc-set, take_all, take-append-le, length-take-le}
use Rattle.lists.proofs.Tests.{decide, ltb_reads}
use Rattle.lines.specs.Lines.{newline}
use Rattle.lines.specs.Chunks.{hold, line, more, bring}

module _ (l : List ℕ) (n b : ℕ) (room : 81 ≤ length l) where
  pub push_more : n < 81 → take (n + 1) (set l n b) ≡ hold (take n l) b
  unfolding hold
  push_more h =
      let t : length (take n l) < 81 = omega (arith, length-take-le n l (omega arith)) in
      rw (add-one, take-suc-set l n b (omega arith), lt-ltb _ _ t)

  pub push_full : 81 ≤ n → n ≤ 81 → take n l ≡ hold (take n l) b
  unfolding hold
  push_full h le =
      let t : 81 ≤ length (take n l) = omega (arith, length-take-le n l (omega arith)) in
      rw (le-ltb _ _ t)

module _ (held l : List ℕ) (i : ℕ) where
  pub feed_newline : i < length l → get_or l i 0 ≡ newline → bring held (drop i l) ≡ line held (drop (i + 1) l)
  unfolding bring
  feed_newline h b = rw (drop-cons l i 0 h, add-one, eq-eqb _ _ b)

  pub feed_byte : i < length l → (get_or l i 0 ≡ newline → ⊥) → bring held (drop i l) ≡ bring (hold held (get_or l i 0)) (drop (i + 1) l)
  unfolding bring
  feed_byte h b = rw (drop-cons l i 0 h, add-one, ne_eqb _ _ b)

  pub feed_end : length l ≤ i → bring held (drop i l) ≡ more held
  unfolding bring
  feed_end h = rw (drop_of_length-le l h)

-- a byte more of a line, and of its first 81 bytes
pub hold_take : (l : List ℕ) (b : ℕ) → hold (take 81 l) b ≡ take 81 (l ++ (b ∷ []))
unfolding hold
hold_take l b = ⊎_elim short (λ n. long (omega arith)) (decide (ltb_reads (length l) 81))
  where
    short : length l < 81 → hold (take 81 l) b ≡ take 81 (l ++ (b ∷ []))
    short h =
        let all : length (l ++ (b ∷ [])) ≤ 81 = omega (arith, length-append l (b ∷ [])) in
        rw (take_all 81 l (omega arith), lt-ltb _ _ h, take_all 81 (l ++ (b ∷ [])) all)

    long : 81 ≤ length l → hold (take 81 l) b ≡ take 81 (l ++ (b ∷ []))
    long h =
        let full : 81 ≤ length (take 81 l) = omega (arith, length-take-le 81 l h) in
        rw (le-ltb _ _ full, take-append-le 81 l (b ∷ []) h)
