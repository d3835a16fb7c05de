-- The ways out of `read_up_to`, and what the calls answer.
use mathlib.Core.Path.{◌≡◌, refl, sym, ap, subst, ◌∙◌}
use mathlib.Core.Bool.{Bool, true, false, ◌&&◌}
use mathlib.Core.List.{List, []}
use Prim.Native.Nat.{ℕ, ◌-◌, ◌≤◌}
use native.Mathlib.Omega.{arith}
use lib.Dec.{ltb}
use lib.ListN.{length, drop, length-drop, drop_of_length-le}
use lib.Seq.{drop-cons}
use Rattle.lists.specs.Lists.{◌∈◌}
use Rattle.lists.proofs.Tables.{holds_list, holds_self, holds_count}
use Rattle.lists.proofs.Tests.{clash}
use borrow.Author.Tests.{ltb-true}
use Rattle.std.proofs.lemmas.Bool.{ltb-false}
use Rattle.sheet.specs.Tables.{Wires}
use Rattle.sheet.specs.Tables.{Components}
use Rattle.sheet.specs.declared.Drawing.{Drawing}
use Rattle.sheet.specs.Drawings.{Sheet, empty_sheet, drawn}
use Rattle.joints.specs.Tables.{sheet_of, Sound}
use Rattle.rules.specs.declared.Checked.{Checked}
use Rattle.rules.specs.Check.{check_of, lawful}
use Rattle.rules.proofs.Found.{found_passes, found_fails}
use Rattle.groups.specs.Taken.{took, refused, then, bad, if}
use Rattle.groups.specs.Groups.{Bytes}
use Rattle.groups.proofs.Codes.{Only}
use Rattle.groups.proofs.Told.{out}
use Rattle.saved.specs.File.{file_of}
use Rattle.saved.specs.Reading.{take_sheet, take_drawing, at_end, take_file, opened, read_file, front_of, read_front}
use Rattle.saved.proofs.Sheets.{SheetIn, sheet_only}
use Rattle.file_rows.specs.Answers.{Got}
use Rattle.file_tables.specs.Tables.{TabledAs}
use Rattle.opening.specs.Whole.{take_up_to}

same_sheet : {ws : Wires} {cs : Components} {t : Sheet} → TabledAs ws cs t → sheet_of ws cs ≡ t
same_sheet p = λ i. record { wires = holds_list p.wires i; parts = holds_list p.parts i }

-- a refusal of the rows is one of the drawing, whether or not the end is looked at
pub rows_refused : (last : Bool) (s : List ℕ) {r : ℕ} → take_sheet s ≡ refused r → take_up_to last s ≡ refused r
unfolding take_file take_drawing then
rows_refused true s e = ap (λ u. then (then u (λ t. if (lawful (drawn t)) (drawn t))) at_end) e
rows_refused false s e = ap (λ u. then u (λ t. if (lawful (drawn t)) (drawn t))) e

-- the rows are read: the drawing is checked
module _ (s rest : List ℕ) (t : Sheet) (e : take_sheet s ≡ took t rest) where
  checked : take_drawing s ≡ if (lawful (drawn t)) (drawn t) rest
  unfolding take_drawing then
  checked = ap (λ u. then u (λ t. if (lawful (drawn t)) (drawn t))) e

  unlawful : (last : Bool) → lawful (drawn t) ≡ false → take_up_to last s ≡ bad
  unfolding take_file then
  unlawful true f = ap (λ u. then u at_end) (checked ∙ (λ i. if (f i) (drawn t) rest))
  unlawful false f = checked ∙ (λ i. if (f i) (drawn t) rest)

  read_drawing : lawful (drawn t) ≡ true → take_drawing s ≡ took (drawn t) rest
  read_drawing f = checked ∙ (λ i. if (f i) (drawn t) rest)

  ended : lawful (drawn t) ≡ true → take_file s ≡ at_end (drawn t) rest
  unfolding take_file then
  ended f = ap (λ u. then u at_end) (read_drawing f)

module _ (at : ℕ) {s : List ℕ} {next : ℕ} {ws : Wires} {cs : Components} (g : Got (take_sheet (drop at s)) s next (TabledAs ws cs)) where
  -- the tables can be drawn
  pub sound : Bytes (drop at s) → Sound ws cs
  sound bytes =
      let p = g.so in
      let o : Only SheetIn file_of (drop at s) g.value (drop next s) = out (sheet_only (drop at s) bytes) g.is in
      record {
        wires = holds_self p.wires;
        parts = holds_self p.parts;
        fits = record { room = holds_count p.parts; each = λ c m. (o.ok.each c (subst (λ l. c ∈ l) (holds_list p.parts) m)).fits };
      }

  module _ {d : Drawing} {c : Checked} (drawing : d ≡ drawn (sheet_of ws cs)) (answer : c ≡ check_of d) where
    same : d ≡ drawn g.value
    same = drawing ∙ ap drawn (same_sheet g.so)

    passes : c.rule ≡ 0 → lawful (drawn g.value) ≡ true
    passes z = ap lawful (sym same) ∙ found_passes d answer z

    pub not_lawful : (last : Bool) → (c.rule ≡ 0 → ⊥) → refused 13 ≡ take_up_to last (drop at s)
    not_lawful last n = sym (unlawful (drop at s) (drop next s) g.value g.is last (ap lawful (sym same) ∙ found_fails d answer n))

    pub not_last : (last : Bool) → c.rule ≡ 0 → (last && ltb next (length s)) ≡ true → refused 14 ≡ take_up_to last (drop at s)
    not_last true z b = sym (ended (drop at s) (drop next s) g.value g.is (passes z) ∙ ap (at_end (drawn g.value)) (drop-cons s next 0 (ltb-true next (length s) b)))
    not_last false z b = absurd (clash b refl)

    pub well_read : (last : Bool) → c.rule ≡ 0 → (last && ltb next (length s)) ≡ false → took d (drop next s) ≡ take_up_to last (drop at s)
    well_read true z b =
        let all : drop next s ≡ [] = drop_of_length-le s {i = next} (ltb-false next (length s) b) in
        (λ i. took (same i) (all i)) ∙ sym (ended (drop at s) (drop next s) g.value g.is (passes z) ∙ ap (at_end (drawn g.value)) all)
    well_read false z b = (λ i. took (same i) (drop next s)) ∙ sym (read_drawing (drop at s) (drop next s) g.value g.is (passes z))

-- ---- the calls

pub front_read : (at : ℕ) (s : List ℕ) {d : Drawing} {next : ℕ} → took d (drop next s) ≡ take_drawing (drop at s) → next ≤ length s → record { reply = 0; next = next; drawing = d } ≡ read_front s at
unfolding read_front
front_read at s {d} {next} e h =
    let n : next ≡ length s - length (drop next s) = omega (arith, length-drop next s) in
    (λ i. record { reply = 0; next = n i; drawing = d }) ∙ ap (front_of at (length s)) e

pub front_refused : (at : ℕ) (s : List ℕ) {r n : ℕ} {e : Drawing} → e ≡ drawn empty_sheet → n ≡ r → refused r ≡ take_drawing (drop at s) → record { reply = n; next = at; drawing = e } ≡ read_front s at
unfolding read_front
front_refused at s q k e = (λ i. record { reply = k i; next = at; drawing = q i }) ∙ ap (front_of at (length s)) e

pub file_read : (s : List ℕ) {r : List ℕ} {d : Drawing} → took d r ≡ take_file s → record { reply = 0; drawing = d } ≡ read_file s
unfolding read_file
file_read s e = ap opened e

pub file_refused : (s : List ℕ) {r n : ℕ} {e : Drawing} → e ≡ drawn empty_sheet → n ≡ r → refused r ≡ take_file s → record { reply = n; drawing = e } ≡ read_file s
unfolding read_file
file_refused s q k e = (λ i. record { reply = k i; drawing = q i }) ∙ ap opened e
