-- The request, of what the calls answer.
use mathlib.Core.Path.{◌≡◌, refl, sym, ap, ◌∙◌}
use mathlib.Core.Bool.{Bool, cond}
use mathlib.Core.List.{List, ◌++◌}
use Prim.Native.Nat.{ℕ, ◌+◌, ◌-◌, ◌≤◌}
use native.Mathlib.Omega.{arith}
use lib.ListN.{length, take, drop, length-append}
use lib.Seq.{take-append_seam, drop-append_seam}
use borrow.Author.Tests.{le-leb}
use Rattle.lists.proofs.Tests.{Reads, pass, fail, reads_as, leb_reads, eqb_reads}
use Rattle.sheet.specs.declared.Drawing.{Drawing}
use Rattle.sheet.specs.Drawings.{Sized, lists_of}
use Rattle.sheet.specs.Rules.{Lawful}
use Rattle.rules.specs.Check.{check_of}
use Rattle.rules.proofs.Check.{check_lawful, lawful_none}
use Rattle.rules.proofs.Found.{found_passes}
use Rattle.text.specs.declared.Written.{Written}
use Rattle.text.specs.Answers.{told_length, answer_of, buffer_of}
use Rattle.saved.specs.File.{file_of}
use Rattle.saved.specs.Reading.{take_drawing, read_file, front_of, read_front}
use Rattle.saved.specs.Answers.{saved_of, saved_in}
use Rattle.saved.specs.Request5.{written, Back, Same, One, Room, Cut, Among, Request5}
use Rattle.saved.proofs.Files.{drawing_back, file_back, file_cut, file_same}
use Rattle.saved.proofs.Lengths.{lawful_file_room}

-- ---- reply 0: the drawing is lawful and its file fits

record Fits (d : Drawing) (room : ℕ) : Type 0 where
  right : Lawful d
  inside : length (file_of (lists_of d)) ≤ room

by_fit : {d : Drawing} {room : ℕ} {a b : Bool} → Reads (Lawful d) a → Reads (length (file_of (lists_of d)) ≤ room) b → (cond a (cond b (told_length 0 (length (file_of (lists_of d)))) (told_length 8 0)) (told_length 9 0)).reply ≡ 0 → Fits d room
by_fit (pass l) (pass h) e = record { right = l; inside = h }
by_fit (pass l) (fail h) e = absurd (omega arith)
by_fit (fail n) r e = absurd (omega arith)

saved_fits : (d : Drawing) (room : ℕ) → Sized d → (saved_of d room).reply ≡ 0 → Fits d room
unfolding saved_of answer_of
saved_fits d room z e = by_fit (reads_as (check_lawful d z) (eqb_reads (check_of d).rule 0)) (leb_reads (length (file_of (lists_of d))) room) e

module _ {d : Drawing} {room : ℕ} (f : Fits d room) where
  saved_told : saved_of d room ≡ told_length 0 (length (file_of (lists_of d)))
  unfolding saved_of answer_of
  saved_told = rw (found_passes d (lawful_none f.right) refl, le-leb (length (file_of (lists_of d))) room f.inside) refl

module _ {d : Drawing} (old : List ℕ) (f : Fits d (length old)) where
  saved_bytes : saved_in d old ≡ file_of (lists_of d) ++ drop (length (file_of (lists_of d))) old
  unfolding saved_in buffer_of
  saved_bytes = rw (found_passes d (lawful_none f.right) refl, le-leb (length (file_of (lists_of d))) (length old) f.inside) refl

  written_is : written d old ≡ file_of (lists_of d)
  written_is =
      let file = file_of (lists_of d) in
      (λ i. take (saved_told f i).length (saved_bytes i)) ∙ take-append_seam file (drop (length file) old)

-- ---- the promises

back : Back
back d old z e = let f = saved_fits d (length old) z e in ap read_file (written_is old f) ∙ file_back f.right z

same : Same
same s old h e few =
    let o = file_same s h e in
    let f : Fits (read_file s).drawing (length old) = record { right = o.1; inside = omega (arith, ap length o.0) } in
    record {
      lawful = o.1;
      told = saved_told f ∙ ap (λ l. told_length 0 (length l)) o.0;
      bytes = saved_bytes old f ∙ ap (λ l. l ++ drop (length l) old) o.0;
    }

one : One
one s t hs ht zs zt e = sym (file_same s hs zs).0 ∙ ap (λ d. file_of (lists_of d)) e ∙ (file_same t ht zt).0

room_enough : Room
room_enough d room z l h = ap (λ (w : Written). w.reply) (saved_told {d = d} {room = room} (record { right = l; inside = omega (arith, lawful_file_room l z) }))

cut : Cut
cut d old z e k h =
    let f = saved_fits d (length old) z e in
    let w = written_is old f in
    ap (λ l. read_file (take k l)) w ∙ file_cut f.right z k (omega (arith, ap length w))

among : Among
unfolding read_front
among d before behind z l =
    let file = file_of (lists_of d) in
    let all = before ++ (file ++ behind) in
    let n : length all - length behind ≡ length before + length file = omega (arith, length-append before (file ++ behind), length-append file behind) in
    ap (front_of (length before) (length all)) (ap take_drawing (drop-append_seam before (file ++ behind)) ∙ drawing_back l z behind)
    ∙ (λ i. record { reply = 0; next = n i; drawing = d })

pub request_5 : Request5
request_5 = record { back = back; same = same; one = one; room = room_enough; cut = cut; among = among }
