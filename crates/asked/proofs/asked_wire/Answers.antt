-- `asked::asked_wire` meets its contract: each coordinate is in its range, and the order of start and end decides.
use Rattle.asked.proofs.Asked.{backward, wire_right}
use Rattle.asked.proofs.asked_wire.Goals as goal

pub returns-then-start-end : goal.returns-then-start-end
returns-then-start-end c =
    wire_right c.args.vertical c.args.line c.args.start c.args.end c.ranges.line c.ranges.start c.ranges.end c.in_ok-l.ensures c.in_ok-s.ensures c.in_ok-e.ensures c.if-start-end.true

pub returns-else-start-end : goal.returns-else-start-end
returns-else-start-end c =
    backward c.args.vertical c.args.line c.args.start c.args.end c.ranges.line c.ranges.start c.ranges.end c.in_ok-l.ensures c.in_ok-s.ensures c.in_ok-e.ensures c.if-start-end.false
