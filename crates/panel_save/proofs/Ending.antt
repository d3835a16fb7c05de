-- The end of the input: a last line or none, and the file in the lent buffer.
use mathlib.Core.Path.{◌≡◌, refl, sym, ap, ap₂, subst, ◌∙◌}
use mathlib.Core.Bool.{true}
use mathlib.Core.List.{List, [], ◌∷◌, ◌++◌}
use Prim.Native.Nat.{ℕ, ◌≤◌}
use native.Mathlib.Omega.{arith}
use lib.Dec.{T, leb}
use lib.ListN.{length, take, drop, length-append}
use lib.Seq.{take_at}
use borrow.Author.Tests.{le-leb}
use Rattle.sheet.specs.declared.Drawing.{Drawing}
use Rattle.sheet.specs.Drawings.{Sized, lists_of}
use Rattle.sheet.specs.Rules.{Lawful}
use Rattle.text.specs.declared.Written.{Written}
use Rattle.text.specs.Answers.{answer_of, buffer_of}
use Rattle.lines.specs.Runs.{ran, finish}
use Rattle.saved.specs.File.{file_of}
use Rattle.saved.proofs.Lengths.{lawful_file_room}
use Rattle.streams.specs.Sums.{sum_of}
use Rattle.panel_save.specs.declared.lines_taken.State.{State}
use Rattle.panel_save.specs.declared.Run.{Run}
use Rattle.panel_save.specs.declared.Done.{Done}
use Rattle.panel_save.specs.Taking.{take_line, Takes, TakesLast, WritesFile, Finished}

-- ---- the last line

module _ (s : State) (count : ℕ) (held : List ℕ) where
  pub no_line : count ≡ 0 → Lawful s.drawing → TakesLast s count held s
  no_line z l = record { is = ap (λ n. finish take_line (ran s (take n held))) (sym z); lawful = l }

  one_line : (l : List ℕ) → 1 ≤ length l → take_line s l ≡ finish take_line (ran s l)
  one_line [] h = absurd (omega arith)
  one_line (b ∷ l) h = refl

  pub last_line : {r : State} → 1 ≤ length (take count held) → Takes s (take count held) r → TakesLast s count held r
  last_line h t = record { is = t.is ∙ one_line (take count held) h; lawful = t.lawful }

-- ---- the file

-- there is room for it, and it stands in front of the buffer
module _ {d : Drawing} (l : Lawful d) (z : Sized d) (old : List ℕ) (room : 8192 ≤ length old) {new : List ℕ} {w : Written}
    (t : w ≡ answer_of (file_of (lists_of d)) (length old)) (b : new ≡ buffer_of (file_of (lists_of d)) old) where
  abbrev file : List ℕ
  file = file_of (lists_of d)

  fits : leb (length file) (length old) ≡ true
  fits = le-leb (length file) (length old) (omega (arith, lawful_file_room l z))

  used : w.length ≡ length file
  unfolding answer_of
  used = ap (λ (x : Written). x.length) (rw fits at t)

  stands : new ≡ file ++ drop (length file) old
  unfolding buffer_of
  stands = rw fits at b

  pub file_inside : w.length ≤ length new
  file_inside = omega (arith, used, ap length stands, length-append file (drop (length file) old))

  pub file_front : take w.length new ≡ file
  file_front = ap₂ take used stands ∙ take_at file (drop (length file) old) (length file) refl

-- ---- both

module _ (r : Run) (held : List ℕ) where
  pub failed_before : {sum told : ℕ} → Finished r held (record { sum = sum; told = told; failed = true })
  failed_before = record { told = λ e. absurd (subst T e tt); file = λ e. absurd (subst T e tt) }

  pub finished : {last : State} {o : Done} → TakesLast r.state r.count held last → WritesFile last.drawing last.told o → Finished r held o
  finished t w = record {
    told = λ _. w.told ∙ ap (λ (s : State). s.told) t.is;
    file = λ _. w.file ∙ ap (λ (s : State). sum_of 0 (file_of (lists_of s.drawing))) t.is;
  }
