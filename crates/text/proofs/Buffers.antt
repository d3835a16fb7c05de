-- What is told of some bytes and what the buffer holds afterwards, where they fit and where they do not.
use mathlib.Core.Path.{◌≡◌, refl, ap, ◌∙◌}
use mathlib.Core.List.{List, ◌++◌}
use Prim.Native.Nat.{ℕ, ◌≤◌, ◌<◌}
use native.Mathlib.Omega.{arith}
use lib.ListN.{length, drop}
use borrow.Author.Tests.{le-leb, lt-leb}
use Rattle.text.specs.Text.{Put}
use Rattle.text.specs.Answers.{told_length, answer_of, buffer_of}
use Rattle.text.proofs.Puts.{put_whole}

-- a first run, which told the length k
module _ {l old new : List ℕ} {k : ℕ} (p : Put old 0 l new k) where
  is_length : k ≡ length l
  is_length = omega (arith, p.behind)

  pub answer_fits : (n : ℕ) → k ≤ n → told_length 0 k ≡ answer_of l n
  unfolding answer_of
  answer_fits n h = rw (le-leb (length l) n (omega (arith, is_length))) (ap (told_length 0) is_length)

  pub answer_long : (n : ℕ) → n < k → told_length 8 0 ≡ answer_of l n
  unfolding answer_of
  answer_long n h = rw (lt-leb (length l) n (omega (arith, is_length))) refl

  pub buffer_long : (d : List ℕ) → length d < k → d ≡ buffer_of l d
  unfolding buffer_of
  buffer_long d h = rw (lt-leb (length l) (length d) (omega (arith, is_length))) refl

  -- a second run over the lent buffer
  pub buffer_fits : {d e : List ℕ} {j : ℕ} → Put d 0 l e j → k ≤ length d → e ≡ buffer_of l d
  unfolding buffer_of
  buffer_fits {d} {e} {j} q h =
      let i : j ≡ length l = omega (arith, q.behind) in
      rw (le-leb (length l) (length d) (omega (arith, is_length))) (put_whole q (omega (arith, is_length)) ∙ ap (λ m. l ++ drop m d) i)
