-- For the loop that reads: `none` before the first chunk, `more` with each, `stopped` where a read fails; and the end of the input.
use mathlib.Core.Path.{◌≡◌, refl, sym, ap, subst, ◌∙◌}
use mathlib.Core.Bool.{true, false}
use mathlib.Core.List.{List, [], ◌∷◌, ◌++◌}
use Prim.Native.Nat.{ℕ, ◌≤◌}
use native.Mathlib.Omega.{arith}
use lib.Dec.{T}
use lib.ListN.{length, take}
use Rattle.sheet.specs.declared.Drawing.{Drawing}
use Rattle.sheet.specs.Drawings.{empty_sheet, drawn}
use Rattle.sheet.specs.Rules.{Lawful}
use Rattle.lines.specs.Runs.{ran, next, chunks, finish}
use Rattle.lines.proofs.Runs.{chunks_more}
use Rattle.telling.specs.Told.{printed}
use Rattle.step.specs.Steps.{step_of}
use Rattle.step.specs.Scripts.{progress, no_tally, start, and_then}
use Rattle.streams.specs.declared.output.Output.{Output}
use Rattle.panel_list.specs.declared.Run.{Run}
use Rattle.streams.specs.Sums.{sum_of}
use Rattle.panel_list.specs.Printing.{Done, Read, Finished, Printed, after_failure}
use Rattle.streams.proofs.Sums.{sum_append}
use Rattle.panel_list.proofs.Whole.{whole}

pub none : {d : Drawing} (held : List ℕ) → d ≡ drawn empty_sheet → Lawful d → Read (record { drawing = d; count = 0; sum = 0; failed = false }) held
none held e l = record {
  input = [];
  output = [];
  sum = unfold sum_of in refl;
  gives = λ _. unfold chunks in ap (λ d. ran (progress d []) []) (sym e);
  lawful = l;
  few = omega arith;
}

pub more : {r : Run} {held : List ℕ} {chunk : List ℕ} {q : Run} {held' : List ℕ} → Read r held → r.failed ≡ false → Done r.drawing r.count r.sum chunk held q held' → Read q held'
more {r} {chunk = chunk} g f n = record {
  input = g.input ++ (chunk ∷ []);
  output = g.output ++ n.output;
  sum = n.summed ∙ ap (λ s. sum_of s n.output) g.sum ∙ sym (sum_append 0 g.output n.output);
  gives = λ e. chunks_more and_then (ran start []) g.input chunk ∙ ap (λ x. next and_then x chunk) (g.gives f) ∙ sym (n.whole e g.output);
  lawful = n.lawful;
  few = n.few;
}

-- after a failure nothing is said but what was handed over before
pub stopped : {r q : Run} {held : List ℕ} → Read r held → q ≡ after_failure r → Read q held
stopped {held = held} g e = subst (λ q. Read q held) (sym e) (record { input = g.input; output = g.output; sum = g.sum; gives = λ e. absurd (subst T e tt); lawful = g.lawful; few = g.few })

-- ---- the end of the input

module _ (r : Run) (held : List ℕ) where
  pub failed_before : {sum : ℕ} → Finished r held (record { sum = sum; failed = true })
  failed_before = record { going = λ e. absurd (subst T e tt); whole = λ e. absurd (subst T e tt) }

  -- no line has begun
  pub no_line : r.failed ≡ false → r.count ≡ 0 → Finished r held (record { sum = r.sum; failed = false })
  no_line f z = record {
    going = λ _. f;
    whole = λ _ before e. e ∙ ap (λ l. sum_of 0 (finish and_then (ran (progress r.drawing before) l)).output) (sym (ap (λ n. take n held) z));
  }

  -- a line has: what it prints is handed over
  last : (before : List ℕ) (l : List ℕ) → 1 ≤ length l → (finish and_then (ran (progress r.drawing before) l)).output ≡ before ++ printed (step_of r.drawing no_tally l)
  last before [] h = absurd (omega arith)
  last before (b ∷ l) h = refl

  pub last_line : {o : Output} {block : List ℕ} → r.failed ≡ false → 1 ≤ length (take r.count held) → block ≡ printed (step_of r.drawing no_tally (take r.count held)) → o.sum ≡ sum_of r.sum block → Finished r held o
  last_line {o} {block} f h is s = record {
    going = λ _. f;
    whole = λ _ before e. s ∙ ap (λ n. sum_of n block) e ∙ sym (sum_append 0 before block) ∙ ap (λ b. sum_of 0 (before ++ b)) is ∙ ap (sum_of 0) (sym (last before (take r.count held) h));
  }

pub all_printed : {r : Run} {held : List ℕ} {o : Output} → Read r held → Finished r held o → Printed o
all_printed {r} {held} g f = record {
  input = g.input;
  all = λ e. f.whole e g.output g.sum ∙ ap (λ x. sum_of 0 (finish and_then x).output) (sym (g.gives (f.going e))) ∙ ap (sum_of 0) (whole g.input);
}
