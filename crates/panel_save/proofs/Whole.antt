-- `whole`: the lines of chunks, one after the other, and the last line at the end, leave the drawing of the script and the sum of what is
-- told of its lines, wherever the input is cut into chunks.
use mathlib.Core.Path.{◌≡◌, refl, sym, ap, ◌∙◌}
use mathlib.Core.List.{List, [], ◌∷◌}
use Prim.Native.Nat.{ℕ}
use lib.ListN.{take}
use Rattle.lines.specs.Lines.{lines_of}
use Rattle.lines.specs.Runs.{ran, through, joined, chunks, finish}
use Rattle.lines.proofs.Runs.{in_chunks}
use Rattle.telling.specs.Told.{After}
use Rattle.step.specs.Steps.{step_of}
use Rattle.step.proofs.Long.{step_81}
use Rattle.step.specs.Scripts.{no_tally, redrawn}
use Rattle.streams.specs.Sums.{sum_of}
use Rattle.streams.proofs.Sums.{sum_append}
use Rattle.panel_save.specs.declared.lines_taken.State.{State}
use Rattle.panel_save.specs.Saving.{next_line, refusal_of, Saving, and_line, saving_of}
use Rattle.panel_save.specs.Taking.{state, begin, take_line}

-- ---- the first 81 bytes

take_81 : (s : State) (l : List ℕ) → take_line s (take 81 l) ≡ take_line s l
take_81 s l = ap (λ (a : After). state a.outcome.drawing (next_line s.line) (sum_of s.told (refusal_of (next_line s.line) a.outcome.reply))) (step_81 s.drawing l)

-- ---- the sum in place of the bytes

abbrev pub summed : Saving → State
summed a = state a.drawing a.line (sum_of 0 a.told)

take_summed : (a : Saving) (l : List ℕ) → take_line (summed a) l ≡ summed (and_line a l)
take_summed a l = ap (state (redrawn a.drawing l) (next_line a.line))
    (sym (sum_append 0 a.told (refusal_of (next_line a.line) (step_of a.drawing no_tally l).outcome.reply)))

through_summed : (a : Saving) (ls : List (List ℕ)) → through take_line (summed a) ls ≡ summed (through and_line a ls)
unfolding through
through_summed a [] = refl
through_summed a (l ∷ ls) = ap (λ s. through take_line s ls) (take_summed a l) ∙ through_summed (and_line a l) ls

pub whole : (ss : List (List ℕ)) → finish take_line (chunks take_line (ran begin []) ss) ≡ summed (saving_of (joined ss))
unfolding saving_of sum_of
whole ss = in_chunks take_line take_81 begin ss ∙ through_summed _ (lines_of (joined ss))
