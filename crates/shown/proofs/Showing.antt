-- The parts of what is printed, one behind the other.
use mathlib.Core.Path.{◌≡◌, refl, sym, ap, ap₂, subst, ◌∙◌}
use mathlib.Core.List.{List, ◌++◌, append_assoc, append-nil}
use Prim.Native.Nat.{ℕ, ◌+◌, ◌≤◌}
use native.Mathlib.Omega.{arith}
use lib.ListN.{length, take, drop, length-append}
use lib.Seq.{length-take-le, take-append_seam}
use borrow.Author.Tests.{eq-eqb, ne_eqb}
use Rattle.sheet.specs.declared.Drawing.{Drawing}
use Rattle.sheet.specs.declared.Tally.{Tally}
use Rattle.sheet.specs.Drawings.{lists_of}
use Rattle.redraw.specs.declared.Edited.{Edited}
use Rattle.redraw.specs.Calls.{refused}
use Rattle.loose_pads.specs.Counting.{loose_of}
use Rattle.listing.specs.Listing.{list_of}
use Rattle.text.specs.Text.{Put}
use Rattle.text.proofs.Puts.{put_fits}
use Rattle.telling.specs.declared.Stepped.{Stepped}
use Rattle.telling.specs.Told.{Answers, answered, loose_line, listedly}
use Rattle.telling.specs.Fitting.{Tells}
use Rattle.telling.proofs.Behind.{printed_behind, printed_fits}
use Rattle.saved.specs.declared.Opened.{Opened}
use Rattle.saved.specs.Reading.{read_file}
use Rattle.shown.specs.Shown.{drawing_shown, shown_of, Shows}

-- bytes that were put, and fit
pub put_shows : {old bs new : List ℕ} {at next : ℕ} → Put old at bs new next → next ≤ length old → length new ≡ length old → Shows old at bs new next
put_shows {old} {bs} {new} {at} {next} p h same =
    let front : length (take at old) ≡ at = length-take-le at old (omega (arith, p.behind)) in
    let n : next ≡ length (take at old ++ bs) = omega (arith, p.behind, front, length-append (take at old) bs) in
    record {
      bytes = ap₂ take n (put_fits p h) ∙ take-append_seam (take at old ++ bs) (drop next old);
      fits = omega arith;
    }

-- one behind the other
pub shows_then : {a b c xs ys : List ℕ} {i j k : ℕ} → Shows a i xs b j → Shows b j ys c k → Shows a i (xs ++ ys) c k
shows_then {a} {xs = xs} {ys} {i = i} p q = record { bytes = q.bytes ∙ ap (λ l. l ++ ys) p.bytes ∙ append_assoc (take i a) xs ys; fits = q.fits }

pub shows_as : {a b xs ys : List ℕ} {i j : ℕ} → xs ≡ ys → Shows a i xs b j → Shows a i ys b j
shows_as {a} {b} {i = i} {j} e p = subst (λ l. Shows a i l b j) e p

-- the list and `E <loose>` of a drawing, in the part of the buffer behind the bytes used
pub list_shows : (d : Drawing) (t : Tally) {e : Edited} (used : ℕ) (out rest : List ℕ) {old new : List ℕ} {s : Stepped} → e ≡ refused 0 d t → Tells (listedly e) old new s → 8192 ≤ length old → used ≤ length out → length new ≡ length old
    → Shows out used (list_of (lists_of d) ++ loose_line (loose_of (lists_of d))) (take used out ++ (new ++ rest)) (used + s.length)
list_shows d t {e} used out rest {old} {new} {s} is w room h same =
    let a : Answers (listedly (refused 0 d t)) old new s = subst (λ x. Answers (listedly x) old new s) is (subst (λ x. Answers x old new s) (w.whole room) w.answers) in
    record { bytes = printed_behind used out rest a h; fits = printed_fits used out rest a h same }

-- ---- a file's answer

module _ (s : List ℕ) {o : Opened} (e : o ≡ read_file s) where
  pub refused_shown : (o.reply ≡ 0 → ⊥) → answered o.reply ≡ shown_of s
  unfolding shown_of
  refused_shown n =
      let r : o.reply ≡ (read_file s).reply = ap (λ (x : Opened). x.reply) e in
      ap answered r ∙ rw (ne_eqb (read_file s).reply 0 (λ z. n (r ∙ z))) (sym (append-nil (answered (read_file s).reply)))

  pub opened_shown : o.reply ≡ 0 → answered o.reply ++ drawing_shown o.drawing ≡ shown_of s
  unfolding shown_of
  opened_shown z =
      let r : o.reply ≡ (read_file s).reply = ap (λ (x : Opened). x.reply) e in
      (λ i. answered (r i) ++ drawing_shown (e i).drawing) ∙ rw (eq-eqb (read_file s).reply 0 (sym r ∙ z)) refl
