-- A line, by its length and its first bytes.
use mathlib.Core.Path.{◌≡◌, sym, ap, ◌∙◌}
use mathlib.Core.List.{List}
use Prim.Native.Nat.{ℕ, ◌<◌, ◌≤◌}
use native.Mathlib.Omega.{arith}
use borrow.Author.Tests.{lt-leb}
use mathlib.Core.Logic.{⊎_elim}
use lib.ListN.{length, take}
use lib.Seq.{take_all, length-take-le}
use Rattle.lists.proofs.Tests.{decide, leb_reads}
use Rattle.check_script.specs.Saying.{Unreadable}
use Rattle.check_script.specs.Reading.{said_of}

pub too_long : (l : List ℕ) → 80 < length l → said_of l ≡ Unreadable
unfolding said_of
too_long l h = rw (lt-leb _ _ h)

-- of a line of which only the first 81 bytes are held it gives what it gives of the whole line
pub said_81 : (l : List ℕ) → said_of (take 81 l) ≡ said_of l
said_81 l = ⊎_elim (λ (le : length l ≤ 80). ap said_of (take_all 81 l (omega arith))) (λ n. long (omega arith)) (decide (leb_reads (length l) 80))
  where
    long : 81 ≤ length l → said_of (take 81 l) ≡ said_of l
    long h =
        let held : 80 < length (take 81 l) = omega (arith, length-take-le 81 l h) in
        too_long (take 81 l) held ∙ sym (too_long l h)
