-- A line is taken: what 8,192 bytes hold is all that the line prints, so the reply told is the script's.
use mathlib.Core.Path.{◌≡◌, ap, ap₂, ◌∙◌}
use mathlib.Core.List.{List}
use Prim.Native.Nat.{ℕ, ◌≤◌}
use lib.ListN.{length}
use Rattle.redraw.specs.declared.Edited.{Edited}
use Rattle.telling.specs.declared.Stepped.{Stepped}
use Rattle.step.specs.Steps.{step_of}
use Rattle.step.specs.Stepping.{Steps}
use Rattle.step.specs.Scripts.{no_tally}
use Rattle.step.proofs.Fitting.{whole_answer}
use Rattle.streams.specs.Sums.{sum_of}
use Rattle.panel_save.specs.declared.lines_taken.State.{State}
use Rattle.panel_save.specs.Saving.{next_line, refusal_of}
use Rattle.panel_save.specs.Taking.{state, Takes}

pub line_taken : (s : State) (line : List ℕ) {old new : List ℕ} {a : Stepped} {number told : ℕ} → 8192 ≤ length old → Steps s.drawing no_tally line old new a
    → number ≡ next_line s.line → told ≡ sum_of s.told (refusal_of number a.edited.reply) → Takes s line (state a.edited.drawing number told)
line_taken s line {a = a} {number} {told} room w n t =
    let o = (whole_answer w room).outcome in
    let reply : a.edited.reply ≡ (step_of s.drawing no_tally line).outcome.reply = ap (λ (e : Edited). e.reply) o in
    let sum : told ≡ sum_of s.told (refusal_of (next_line s.line) (step_of s.drawing no_tally line).outcome.reply) = t ∙ ap₂ (λ m r. sum_of s.told (refusal_of m r)) n reply in
    record { is = λ i. state (o i).drawing (n i) (sum i); lawful = w.lawful }
