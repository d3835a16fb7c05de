-- A pass: the numbers of the pads passed stand behind those of the ends.
use Rattle.std.proofs.Common.{◌≡◌, length, ◌≤◌, ◌+◌, ◌++◌, [], ◌∷◌}
use Rattle.std.specs.List.{flat_map}
use Rattle.lists.proofs.Passes.{Pass}
use Rattle.merge.specs.Codes.{mark, end_marks, Coded, number_rows}
use Rattle.merge.proofs.codes.mark_codes.Given as goal

abbrev pub invariant-loop-p : goal.invariant-loop-p
invariant-loop-p l = (length l.out.rows ≡ 1408) × (l.out.count ≤ 1024 + l.p-index) × Pass (λ ms t. Coded (flat_map end_marks l.ws ++ ms) (number_rows t)) (λ p. mark 2 p ∷ []) l.pads l.p-index l.out
