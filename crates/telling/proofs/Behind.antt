-- What is printed in the part of a buffer behind the bytes used.
use mathlib.Core.Path.{◌≡◌, sym, ap, ◌∙◌}
use mathlib.Core.List.{List, ◌++◌, append_assoc}
use Prim.Native.Nat.{ℕ, ◌+◌, ◌-◌, ◌≤◌}
use native.Mathlib.Omega.{arith}
use lib.ListN.{length, take, drop, length-append, length-drop}
use lib.Seq.{take_all, length-take-le, take-append-add, take_at}
use Rattle.telling.specs.declared.Stepped.{Stepped}
use Rattle.telling.specs.Told.{After, Answers, printed}
use Rattle.telling.proofs.Telling.{answer_fits}

-- as long as the part of the buffer behind an index, as it is lent
pub length_take_all : (out : List ℕ) (used : ℕ) → length (take (length out - used) (drop used out)) ≡ length out - used
length_take_all out used = ap length (take_all (length out - used) (drop used out) (omega (arith, length-drop used out))) ∙ length-drop used out

behind : (front bs old rest : List ℕ) (n : ℕ) → n ≡ length bs → take (length front + n) (front ++ ((bs ++ drop n old) ++ rest)) ≡ front ++ bs
behind front bs old rest n e =
    take-append-add front ((bs ++ drop n old) ++ rest) n
    ∙ ap (λ l. front ++ l) (ap (take n) (append_assoc bs (drop n old) rest) ∙ take_at bs (drop n old ++ rest) n (sym e))

module _ {a : After} (used : ℕ) (out rest : List ℕ) {old new : List ℕ} {s : Stepped} (w : Answers a old new s) (h : used ≤ length out) where
  -- what is printed stands behind the bytes used
  pub printed_behind : take (used + s.length) (take used out ++ (new ++ rest)) ≡ take used out ++ printed a
  printed_behind =
      ap (λ ys. take (used + s.length) (take used out ++ (ys ++ rest))) w.bytes
      ∙ ap (λ k. take (k + s.length) (take used out ++ ((printed a ++ drop s.length old) ++ rest))) (sym (length-take-le used out h))
      ∙ behind (take used out) (printed a) old rest s.length w.length

  -- and it fits there
  pub printed_fits : length new ≡ length old → used + s.length ≤ length (take used out ++ (new ++ rest))
  printed_fits e = omega (arith, answer_fits w e, length-append (take used out) (new ++ rest), length-append new rest, length-take-le used out h)
