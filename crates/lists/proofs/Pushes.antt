-- Rows stored behind the first k of a table, where what stands further behind does not matter.
use Prim.Native.Nat.{ℕ, ◌+◌, ◌≤◌, ◌<◌}
use native.Mathlib.Numerals.{add-one}
use native.Mathlib.Omega.{arith}
use mathlib.Core.Path.{◌≡◌, refl, sym, ap, ◌∙◌}
use mathlib.Core.List.{List, [], ◌∷◌, ◌++◌, append_assoc}
use lib.ListN.{length, get_or, take, set, length-set}
use lib.Seq.{take-append-add, take-suc-set, take-take, length-take-le}

module _ {A : Type 0} where
  pub three_of : (l : List A) (z : A) → length l ≡ 3 → l ≡ get_or l 0 z ∷ get_or l 1 z ∷ get_or l 2 z ∷ []
  three_of [] z e = absurd (omega arith)
  three_of (a ∷ []) z e = absurd (omega arith)
  three_of (a ∷ b ∷ []) z e = absurd (omega arith)
  three_of (a ∷ b ∷ c ∷ []) z e = refl
  three_of (a ∷ b ∷ c ∷ d ∷ l) z e = absurd (omega arith)

  pub take_push : (rows : List A) (k : ℕ) (x : A) → k < length rows → take (k + 1) (set rows k x) ≡ take k rows ++ (x ∷ [])
  take_push rows k x h = rw add-one (take-suc-set rows k x h)

  pub take_push_two : (rows : List A) (k : ℕ) (x y : A) → k + 1 < length rows → take (k + 2) (set (set rows k x) (k + 1) y) ≡ take k rows ++ (x ∷ y ∷ [])
  take_push_two rows k x y h =
      let same : length (set rows k x) ≡ length rows = length-set rows k x in
      let two : k + 2 ≡ k + 1 + 1 = omega arith in
      ap (λ (n : ℕ). take n (set (set rows k x) (k + 1) y)) two ∙ take_push (set rows k x) (k + 1) y (omega arith)
      ∙ ap (λ (r : List A). r ++ (y ∷ [])) (take_push rows k x (omega arith)) ∙ append_assoc (take k rows) (x ∷ []) (y ∷ [])

  set_three : (rows : List A) (k : ℕ) (a b c : A) → k + 3 ≤ length rows → take (k + 3) (set (set (set rows k a) (k + 1) b) (k + 2) c) ≡ take k rows ++ (a ∷ b ∷ c ∷ [])
  set_three rows k a b c h =
      let t : List A = set (set rows k a) (k + 1) b in
      let lt : length t ≡ length rows = length-set (set rows k a) (k + 1) b ∙ length-set rows k a in
      let three : k + 3 ≡ k + 2 + 1 = omega arith in
      ap (λ (n : ℕ). take n (set t (k + 2) c)) three ∙ take_push t (k + 2) c (omega arith)
      ∙ ap (λ (r : List A). r ++ (c ∷ [])) (take_push_two rows k a b (omega arith)) ∙ append_assoc (take k rows) (a ∷ b ∷ []) (c ∷ [])

  pub take_three : (rows : List A) (k m : ℕ) (a b c : A) → k + 3 ≤ length rows → m ≤ 3 → take (k + m) (set (set (set rows k a) (k + 1) b) (k + 2) c) ≡ take k rows ++ take m (a ∷ b ∷ c ∷ [])
  take_three rows k m a b c h j =
      let s : List A = set (set (set rows k a) (k + 1) b) (k + 2) c in
      let lk : length (take k rows) ≡ k = length-take-le k rows (omega arith) in
      sym (take-take (k + m) (k + 3) s (omega arith)) ∙ ap (take (k + m)) (set_three rows k a b c h)
      ∙ ap (λ (n : ℕ). take (n + m) (take k rows ++ (a ∷ b ∷ c ∷ []))) (sym lk) ∙ take-append-add (take k rows) (a ∷ b ∷ c ∷ []) m
