-- `whole`: what the lines of chunks print, one after the other, and the last line at the end, is what the script prints, wherever
-- the input is cut into chunks.
use mathlib.Core.Path.{◌≡◌, ap}
use mathlib.Core.List.{List, [], ◌++◌}
use Prim.Native.Nat.{ℕ}
use lib.ListN.{take}
use Rattle.lines.specs.Runs.{ran, joined, chunks, finish}
use Rattle.lines.proofs.Runs.{in_chunks}
use Rattle.telling.specs.Told.{After, printed}
use Rattle.step.proofs.Long.{step_81}
use Rattle.step.specs.Scripts.{Progress, progress, start, and_then, script_of}

then_81 : (a : Progress) (l : List ℕ) → and_then a (take 81 l) ≡ and_then a l
then_81 a l = ap (λ (s : After). progress s.outcome.drawing (a.output ++ printed s)) (step_81 a.drawing l)

pub whole : (ss : List (List ℕ)) → (finish and_then (chunks and_then (ran start []) ss)).output ≡ script_of (joined ss)
unfolding script_of
whole ss = ap (λ (a : Progress). a.output) (in_chunks and_then then_81 start ss)
