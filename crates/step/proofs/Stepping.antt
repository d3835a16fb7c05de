-- One line: what is told of the edit that came of it is the line's step, and a lawful drawing stays lawful.
use mathlib.Core.Path.{◌≡◌, sym, subst}
use mathlib.Core.List.{List}
use Prim.Native.Nat.{ℕ}
use lib.ListN.{length}
use Rattle.sheet.specs.declared.Drawing.{Drawing}
use Rattle.sheet.specs.declared.Tally.{Tally}
use Rattle.sheet.specs.Rules.{Lawful}
use Rattle.redraw.specs.declared.Edited.{Edited}
use Rattle.script.specs.Commands.{Command, Nets}
use Rattle.script.specs.Reading.{command_of}
use Rattle.telling.specs.declared.Stepped.{Stepped}
use Rattle.step.specs.Steps.{edit_of, step_of}
use Rattle.telling.specs.Told.{told, in_room, Answers}
use Rattle.telling.specs.Fitting.{Tells}
use Rattle.step.specs.Stepping.{Steps}
use Rattle.step.proofs.Asking.{stepped}
use Rattle.step.proofs.Lawfulness.{edit_lawful, step_lawful}
use Rattle.telling.proofs.Telling.{tells_as, told_drawing}

module _ (d : Drawing) (t : Tally) (line : List ℕ) {k : Command} {e : Edited} where
  -- of any drawing
  pub answers_line : {old new : List ℕ} {r : Stepped} → k ≡ command_of line → e ≡ edit_of d t line k → Tells (told k e) old new r → Answers (in_room (length old) (step_of d t line)) old new r
  answers_line is-k is-e w = (tells_as (stepped d t line is-k is-e) w).answers

  -- of a lawful one
  pub steps_line : {old new : List ℕ} {r : Stepped} → Lawful d → k ≡ command_of line → e ≡ edit_of d t line k → Tells (told k e) old new r → Steps d t line old new r
  steps_line l is-k is-e w =
      let v = tells_as (stepped d t line is-k is-e) w in
      record { tells = v; lawful = subst Lawful (sym (told_drawing v)) (step_lawful l t line) }

  pub lawful_told : Lawful d → e ≡ edit_of d t line k → k ≡ Nets → e.reply ≡ 0 → Lawful e.drawing
  lawful_told l is-e _ _ = subst (λ (x : Edited). Lawful x.drawing) (sym is-e) (edit_lawful l t line k)
