-- `next_line` meets its contract: what the rest of the chunk brings to the bytes held is always what the whole chunk brings.
use Rattle.std.proofs.Common.{sym, ◌∙◌, arith}
use Rattle.lines.proofs.Holding.{feed_byte, feed_end}
use Rattle.lines.proofs.next_line.Goals as goal

pub loop-i-preserved : goal.loop-i-preserved
loop-i-preserved c =
    let p = c.push-n in
    let l = c.loop-i in
    record {
      same = rw p.ensures.0 (sym (feed_byte _ _ l.i (omega arith) (omega arith)) ∙ l.invariant.same);
      few = p.ensures.1;
      long = p.auto.held ∙ l.invariant.long;
    }

pub returns : goal.returns
returns c =
    let l = c.loop-i in
    record { told = sym (feed_end _ _ l.i (omega arith)) ∙ l.invariant.same; within = l.invariant.few; long = l.invariant.long }
