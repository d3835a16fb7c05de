-- A line is told from no other by more than its first 81 bytes.
use mathlib.Core.Path.{◌≡◌, ap}
use mathlib.Core.List.{List}
use Prim.Native.Nat.{ℕ}
use lib.ListN.{take}
use Rattle.sheet.specs.declared.Drawing.{Drawing}
use Rattle.redraw.specs.Calls.{refused}
use Rattle.script.specs.Commands.{Unreadable}
use Rattle.script.specs.Reading.{command_of}
use Rattle.script.proofs.Meaning.{only_81}
use Rattle.telling.specs.Told.{plainly, told}
use Rattle.step.specs.Steps.{edit_of, step_of}
use Rattle.step.specs.Scripts.{no_tally}

step_unreadable : (d : Drawing) (l : List ℕ) → command_of l ≡ Unreadable → step_of d no_tally l ≡ plainly (refused 10 d no_tally)
unfolding step_of edit_of
step_unreadable d l e = ap (λ k. told k (edit_of d no_tally l k)) e

pub step_81 : (d : Drawing) (l : List ℕ) → step_of d no_tally (take 81 l) ≡ step_of d no_tally l
step_81 d = only_81 (step_of d no_tally) (plainly (refused 10 d no_tally)) (step_unreadable d)
