-- An answer in front of a buffer, and bytes put behind it.
use mathlib.Core.Path.{◌≡◌, sym, ap, ap₂, subst, ◌∙◌}
use mathlib.Core.Bool.{Bool}
use mathlib.Core.List.{List, ◌++◌, append_assoc}
use Prim.Native.Nat.{ℕ, ◌+◌, ◌≤◌}
use native.Mathlib.Omega.{arith}
use lib.ListN.{length, take, drop, length-append, length-drop, take-append-drop}
use lib.Seq.{length-take-le, take_at, drop_at, drop-append-le, drop-drop}
use Rattle.sheet.specs.declared.Drawing.{Drawing}
use Rattle.script.specs.Reading.{command_of}
use Rattle.text.specs.Text.{Put}
use Rattle.text.proofs.Puts.{put_fits}
use Rattle.sheet.specs.Rules.{Lawful}
use Rattle.redraw.specs.declared.Edited.{Edited}
use Rattle.telling.specs.declared.Stepped.{Stepped}
use Rattle.telling.specs.Told.{After, printed, Answers}
use Rattle.step.specs.Steps.{step_of}
use Rattle.telling.specs.Fitting.{asks_list}
use Rattle.step.specs.Scripts.{no_tally, redrawn}
use Rattle.telling.proofs.Telling.{answer_fits}
use Rattle.dump.specs.Rows.{Puts}
use Rattle.panel_rows.specs.declared.rows.Printed.{Printed}
use Rattle.panel_rows.specs.Printing.{behind, rows_step, PrintsRows}

module _ (a : After) (old : List ℕ) (k : ℕ) {part : List ℕ} {s : Stepped} (room : k ≤ length old) (e : Answers a (take k old) part s) (same : length part ≡ length (take k old)) where
  inside : s.length ≤ length (take k old)
  inside = answer_fits e same

  -- the whole buffer, behind the answer as it was
  whole : part ++ drop k old ≡ printed a ++ drop s.length old
  whole =
      ap (λ l. l ++ drop k old) e.bytes
      ∙ append_assoc (printed a) (drop s.length (take k old)) (drop k old)
      ∙ ap (λ l. printed a ++ l) (sym (drop-append-le s.length (take k old) (drop k old) inside) ∙ ap (drop s.length) (take-append-drop k old))

  joined : {tail new : List ℕ} {next most : ℕ} → k + most ≤ length old → Puts most (part ++ drop k old) s.length tail new next
      → (next ≡ length (printed a ++ tail)) × (new ≡ printed a ++ tail ++ drop next old)
  joined {tail} {new} {next} {most} fits p =
      let n : ℕ = s.length in
      let mid : List ℕ = printed a ++ drop n old in
      let q : Put mid n tail new next = subst (λ l. Put l n tail new next) whole p.put in
      let h : next ≤ length mid = omega (arith, inside, length-take-le k old room, length-append (printed a) (drop n old), length-drop n old, e.length, p.short, q.behind) in
      let behind : drop next mid ≡ drop next old = ap (λ m. drop m mid) q.behind ∙ sym (drop-drop (length tail) n mid) ∙ ap (drop (length tail)) (drop_at (printed a) (drop n old) n (sym e.length)) ∙ drop-drop (length tail) n old ∙ ap (λ m. drop m old) (sym q.behind) in
      (omega (arith, q.behind, e.length, length-append (printed a) tail), put_fits q h ∙ ap₂ (λ l m. l ++ tail ++ m) (take_at (printed a) (drop n old) n (sym e.length)) behind)

-- a line's answer, and what stands behind it
pub stepped : (d : Drawing) (line old : List ℕ) {part new : List ℕ} {s : Stepped} {list : Bool} {next : ℕ} → 61488 ≤ length old → list ≡ asks_list (command_of line)
    → Answers (step_of d no_tally line) (take 8192 old) part s → Lawful s.edited.drawing → length part ≡ length (take 8192 old) → Puts 53296 (part ++ drop 8192 old) s.length (behind list s.edited.drawing) new next
    → PrintsRows d line old new (record { drawing = s.edited.drawing; length = next })
unfolding rows_step
stepped d line old {part} {new} {s} {list} {next} room l e lawful same p =
    let a : After = step_of d no_tally line in
    let j = joined a old 8192 (omega arith) e same room p in
    let drawn : s.edited.drawing ≡ redrawn d line = ap (λ (x : Edited). x.drawing) e.outcome in
    let is : behind list s.edited.drawing ≡ behind (asks_list (command_of line)) (redrawn d line) = ap₂ behind l drawn in
    record {
      drawing = drawn;
      lawful = lawful;
      length = j.0 ∙ ap (λ t. length (printed a ++ t)) is;
      bytes = j.1 ∙ ap (λ t. printed a ++ t ++ drop next old) is;
    }

-- and it fits there
pub rows_fit : {d : Drawing} {line old new : List ℕ} {r : Printed} → PrintsRows d line old new r → length new ≡ length old → r.length ≤ length new
rows_fit {d} {line} {old} {r = r} w e = omega (arith, w.length, ap length w.bytes, length-append (rows_step d line).output (drop r.length old))
