-- In 8,192 bytes all of a line's answer stands.
use mathlib.Core.Path.{subst}
use mathlib.Core.List.{List}
use Prim.Native.Nat.{ℕ, ◌≤◌}
use lib.ListN.{length}
use Rattle.telling.specs.declared.Stepped.{Stepped}
use Rattle.sheet.specs.declared.Drawing.{Drawing}
use Rattle.sheet.specs.declared.Tally.{Tally}
use Rattle.telling.specs.Told.{Answers}
use Rattle.step.specs.Steps.{step_of}
use Rattle.step.specs.Stepping.{Steps}

pub whole_answer : {d : Drawing} {t : Tally} {line old new : List ℕ} {r : Stepped} → Steps d t line old new r → 8192 ≤ length old → Answers (step_of d t line) old new r
whole_answer {old = old} {new} {r} w h = subst (λ a. Answers a old new r) (w.tells.whole h) w.tells.answers
