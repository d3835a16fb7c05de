-- Each byte moves the sum of all that were before it.
use Rattle.std.proofs.Common.{sym, ◌∙◌, arith}
use Rattle.streams.proofs.Sums.{sum_on, sum_end}
use Rattle.streams.proofs.output.sum_of.Goals as goal

pub loop-b-preserved : goal.loop-b-preserved
loop-b-preserved c =
    let l = c.loop-b in
    sum_on c.args.block.now l.s l.b-index (omega arith) c.summed-s.ensures ∙ l.invariant

pub returns : goal.returns
returns c =
    let l = c.loop-b in
    sym (sum_end c.args.block.now l.s l.b-index (omega arith)) ∙ l.invariant
