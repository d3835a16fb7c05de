-- A saved drawing, by the number of the call.
use Prim.Native.Nat.{ℕ, ◌%◌, ◌<◌, ◌≤◌}
use native.Mathlib.Omega.{arith}
use mathlib.Core.List.{List, ◌++◌}
use mathlib.Core.Path.{◌≡◌, refl, sym, ap, ◌∙◌}
use borrow.Author.Tests.{lt-ltb, le-ltb, le-leb, eq-eqb, ne_eqb}
use lib.ListN.{length, get_or, take, drop, replicate}
use lib.Seq.{length-take-le, take-append_seam}
use Rattle.sheet.specs.declared.Drawing.{Drawing}
use Rattle.sheet.specs.Drawings.{Sized, lists_of}
use Rattle.sheet.specs.Rules.{Lawful}
use Rattle.text.specs.declared.Written.{Written}
use Rattle.text.specs.Answers.{told_length, answer_of, buffer_of}
use Rattle.saved.specs.File.{file_of}
use Rattle.saved.specs.declared.Opened.{Opened}
use Rattle.saved.specs.Answers.{saved_in}
use Rattle.saved.specs.Reading.{read_file}
use Rattle.saved.proofs.Lengths.{lawful_file_room}
use Rattle.bench_calls.specs.Files.{saved_byte, back_reply, file_answer}

module _ (call : ℕ) (d : Drawing) (last : ℕ) {out : List ℕ} where
  pub saved_checked : call ≡ 17 → out ≡ saved_in d (replicate 6022 0) → get_or out (last % 6022) 0 ≡ saved_byte call d last
  unfolding saved_byte
  saved_checked k q = ap (λ (l : List ℕ). get_or l (last % 6022) 0) q ∙ rw (eq-eqb call 17 k) refl

  pub saved_lawful : (call ≡ 17 → ⊥) → out ≡ buffer_of (file_of (lists_of d)) (replicate 6022 0) → get_or out (last % 6022) 0 ≡ saved_byte call d last
  unfolding saved_byte
  saved_lawful f q = ap (λ (l : List ℕ). get_or l (last % 6022) 0) q ∙ rw (ne_eqb call 17 f) refl

module _ (call : ℕ) (d : Drawing) (last : ℕ) where
  pub by_saved : call < 19 → saved_byte call d last ≡ file_answer call d last
  unfolding file_answer
  by_saved h = rw (lt-ltb call 19 h) refl

  pub by_back : 19 ≤ call → back_reply d ≡ file_answer call d last
  unfolding file_answer
  by_back h = rw (le-ltb call 19 h) refl

-- what was written into 6,022 bytes is the file
module _ {d : Drawing} (l : Lawful d) (z : Sized d) {w : Written} (old : List ℕ) {out : List ℕ} (room : 6022 ≤ length old) (told : w ≡ answer_of (file_of (lists_of d)) (length old)) (written : out ≡ buffer_of (file_of (lists_of d)) old) where
  fits : length (file_of (lists_of d)) ≤ length old
  fits = omega (arith, lawful_file_room l z)

  pub file_length : w.length ≡ length (file_of (lists_of d))
  unfolding answer_of
  file_length = let e : w ≡ told_length 0 (length (file_of (lists_of d))) = told ∙ rw (le-leb (length (file_of (lists_of d))) (length old) fits) refl in ap (λ (x : Written). x.length) e

  -- and as long as it is told
  pub file_part : length out ≡ length old → w.length ≡ length (take w.length out)
  file_part same = sym (length-take-le w.length out (omega (arith, file_length, fits)))

  pub file_bytes : take w.length out ≡ file_of (lists_of d)
  unfolding buffer_of
  file_bytes =
      let file = file_of (lists_of d) in
      let bytes : out ≡ file ++ drop (length file) old = written ∙ rw (le-leb (length file) (length old) fits) refl in
      (λ i. take (file_length i) (bytes i)) ∙ take-append_seam file (drop (length file) old)

  pub file_back : {o : Opened} → o ≡ read_file (take w.length out) → o.reply ≡ back_reply d
  unfolding back_reply
  file_back e = ap (λ (x : Opened). x.reply) (e ∙ ap read_file file_bytes)
