-- A line's answer in the part of the buffer behind the bytes used.
use mathlib.Core.Path.{◌≡◌, sym, ap, ◌∙◌}
use mathlib.Core.List.{List, ◌++◌}
use Prim.Native.Nat.{ℕ, ◌+◌, ◌≤◌}
use lib.ListN.{length, take, drop}
use lib.Seq.{take_at}
use Rattle.sheet.specs.declared.Drawing.{Drawing}
use Rattle.sheet.specs.Rules.{Lawful}
use Rattle.telling.specs.declared.Stepped.{Stepped}
use Rattle.telling.specs.Told.{After, Answers, printed}
use Rattle.step.specs.Steps.{step_of}
use Rattle.step.specs.Scripts.{no_tally, progress}
use Rattle.telling.proofs.Behind.{printed_behind, printed_fits}
use Rattle.panel_list.specs.Printing.{Prints}

pub line_printed : (d : Drawing) (line : List ℕ) (used : ℕ) (out rest : List ℕ) {old new : List ℕ} {s : Stepped}
    → Answers (step_of d no_tally line) old new s → Lawful s.edited.drawing → used ≤ length out → length new ≡ length old
    → Prints d line used out (record { drawing = s.edited.drawing; used = used + s.length }) (take used out ++ (new ++ rest))
line_printed d line used out rest w l h e = record {
  told = λ i. progress (w.outcome i).drawing (printed_behind used out rest w h i);
  lawful = l;
  fits = printed_fits used out rest w h e;
}

-- the print of a line in front of the whole buffer
pub answer_front : {a : After} {old new : List ℕ} {s : Stepped} → Answers a old new s → take s.length new ≡ printed a
answer_front {a} {old} {s = s} w = ap (take s.length) w.bytes ∙ take_at (printed a) (drop s.length old) s.length (sym w.length)
