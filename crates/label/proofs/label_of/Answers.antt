-- `label::label_of` meets its contract: what is copied, and the zeros behind it.
use Rattle.std.proofs.Common.{◌∙◌, ◌++◌, [], drop, length, arith}
use Rattle.label.specs.Labels.{label_of, padded}
use Rattle.label.proofs.Labels.{filled}
use Rattle.label.proofs.label_of.Goals as goal

pub returns : goal.returns
unfolding label_of padded
returns c =
    let s = c.args.s.now in
    let e = c.min-n.ensures in
    λ j. record { bytes = ((λ i. c.copy_from_slice.ensures.after i ++ drop c.min-n.result (padded 16 [])) ∙ filled 16 c.min-n.result s (omega arith) (omega arith) (λ h. omega arith)) j; length = length s }
