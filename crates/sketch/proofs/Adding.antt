-- A label's bytes, for a sketch's rows.
use Rattle.std.proofs.Common.{◌≡◌, ap, ◌∙◌, ℕ, ◌-◌, ◌<◌, ◌≤◌, List, length, take, drop, arith, length-drop}
use Rattle.std.proofs.Math.ListN.{drop_of_length-le, replicate}
use Rattle.std.proofs.Math.Seq.{take_all}
use Rattle.label.specs.declared.Label.{Label}
use Rattle.label.specs.Labels.{padded, label_of}

pub label_bytes : (l : List ℕ) (at : ℕ) {r : Label} → r ≡ label_of (take (length l - at) (drop at l)) → r.bytes ≡ padded 16 (drop at l)
unfolding label_of
label_bytes l at e = ap (λ (r : Label). r.bytes) e ∙ ap (padded 16) (take_all (length l - at) (drop at l) (omega (arith, length-drop at l)))

pub no_bytes : (l : List ℕ) (at : ℕ) → length l < at → replicate 16 0 ≡ padded 16 (drop at l)
unfolding padded
no_bytes l at h = let le : length l ≤ at = omega arith in rw (drop_of_length-le l le)
