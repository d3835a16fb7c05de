-- For the loop that reads: `none` before the first chunk, `more` with each, `stopped` where a read fails; and at the end `all_saved`.
use mathlib.Core.Path.{◌≡◌, sym, ap, subst, ◌∙◌}
use mathlib.Core.Bool.{false}
use mathlib.Core.List.{List, [], ◌∷◌, ◌++◌}
use Prim.Native.Nat.{ℕ}
use native.Mathlib.Omega.{arith}
use Rattle.sheet.specs.declared.Drawing.{Drawing}
use Rattle.sheet.specs.Drawings.{empty_sheet, lists_of, drawn}
use Rattle.sheet.specs.Rules.{Lawful}
use Rattle.lines.specs.Runs.{ran, next, chunks, joined, finish}
use Rattle.lines.proofs.Runs.{chunks_more}
use Rattle.saved.specs.File.{file_of}
use Rattle.streams.specs.Sums.{sum_of}
use Rattle.panel_save.specs.declared.lines_taken.State.{State}
use Rattle.panel_save.specs.declared.Run.{Run}
use Rattle.panel_save.specs.declared.Done.{Done}
use Rattle.panel_save.specs.Saving.{saving_of, Saves}
use Rattle.panel_save.specs.Taking.{state, begin, take_line, TakesChunk, after_failure, Read, Finished}
use Rattle.panel_save.proofs.Whole.{summed, whole}

pub none : {d : Drawing} (held : List ℕ) → d ≡ drawn empty_sheet → Lawful d → Read (record { state = state d 0 0; count = 0; failed = false }) held
none held e l = record {
  input = [];
  gives = unfold chunks in ap (λ d. ran (state d 0 0) []) (sym e);
  lawful = l;
  few = omega arith;
}

pub more : {q r : Run} {chunk held held' : List ℕ} → Read q held → TakesChunk q chunk held r held' → Read r held'
more {chunk = chunk} g n = record {
  input = g.input ++ (chunk ∷ []);
  gives = chunks_more take_line (ran begin []) g.input chunk ∙ ap (λ x. next take_line x chunk) g.gives ∙ sym n.whole;
  lawful = n.lawful;
  few = n.few;
}

pub stopped : {q r : Run} {held : List ℕ} → Read q held → r ≡ after_failure q → Read r held
stopped {held = held} g e = subst (λ r. Read r held) (sym e) (record { input = g.input; gives = g.gives; lawful = g.lawful; few = g.few })

-- all that was read, and its end
pub all_saved : {r : Run} {held : List ℕ} {o : Done} → Read r held → Finished r held o → Saves o
all_saved g f =
    let all : finish take_line (chunks take_line (ran begin []) g.input) ≡ summed (saving_of (joined g.input)) = whole g.input in
    record {
      input = g.input;
      told = λ e. f.told e ∙ ap (λ x. (finish take_line x).told) (sym g.gives) ∙ ap (λ (s : State). s.told) all;
      file = λ e. f.file e ∙ ap (λ x. sum_of 0 (file_of (lists_of (finish take_line x).drawing))) (sym g.gives) ∙ ap (λ (s : State). sum_of 0 (file_of (lists_of s.drawing))) all;
    }
