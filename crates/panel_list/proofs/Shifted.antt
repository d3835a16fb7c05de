-- What was printed before stands in front of what a chunk prints, and nothing else depends on it: `shifted`.
use mathlib.Core.Path.{◌≡◌, refl, ap, ◌∙◌}
use mathlib.Core.Bool.{Bool, true, false, cond}
use mathlib.Core.List.{List, [], ◌∷◌, ◌++◌, append_assoc}
use Prim.Native.Nat.{ℕ}
use lib.Dec.{eqb}
use Rattle.lines.specs.Lines.{newline}
use Rattle.lines.specs.Chunks.{hold}
use Rattle.lines.specs.Runs.{Ran, ran, through_chunk}
use Rattle.sheet.specs.declared.Drawing.{Drawing}
use Rattle.telling.specs.Told.{printed}
use Rattle.step.specs.Steps.{step_of}
use Rattle.step.specs.Scripts.{Progress, progress, no_tally, redrawn, and_then}

-- with `before` in front
abbrev pub shift : List ℕ → Ran Progress → Ran Progress
shift before (ran a held) = ran (progress a.drawing (before ++ a.output)) held

then_shifted : (before : List ℕ) (a : Progress) (line : List ℕ) → and_then (progress a.drawing (before ++ a.output)) line ≡ progress (and_then a line).drawing (before ++ (and_then a line).output)
then_shifted before a line = ap (progress (redrawn a.drawing line)) (append_assoc before a.output (printed (step_of a.drawing no_tally line)))

shifted_from : (before : List ℕ) (a : Progress) (held s : List ℕ) → through_chunk and_then (progress a.drawing (before ++ a.output)) held s ≡ shift before (through_chunk and_then a held s)
unfolding through_chunk
shifted_from before a held [] = refl
shifted_from before a held (b ∷ s) =
    go (eqb b newline) (through_chunk and_then (and_then a held) [] s) (through_chunk and_then a (hold held b) s)
    (ap (λ x. through_chunk and_then x [] s) (then_shifted before a held) ∙ shifted_from before (and_then a held) [] s) (shifted_from before a (hold held b) s)
  where
    go : (t : Bool) (u v : Ran Progress) {x y : Ran Progress} → x ≡ shift before u → y ≡ shift before v → cond t x y ≡ shift before (cond t u v)
    go true u v p q = p
    go false u v p q = q

pub shifted : (before : List ℕ) (d : Drawing) (output held s : List ℕ) → through_chunk and_then (progress d (before ++ output)) held s ≡ shift before (through_chunk and_then (progress d output) held s)
shifted before d output held s = shifted_from before (progress d output) held s
