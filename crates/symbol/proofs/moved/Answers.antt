-- `symbol::moved` meets its contract: the tables tell which way each coordinate goes.
use Rattle.symbol.proofs.Moving.{moved_straight, moved_crossed}
use Rattle.symbol.proofs.moved.Goals as goal

pub returns-then-n-eq0 : goal.returns-then-n-eq0
returns-then-n-eq0 c =
    let s = c.before.before.before in
    moved_straight s.args.q s.args.x s.args.y s.requires.0.turned c.if-n-eq0.true c.along.ensures c.along-then-n-eq0.ensures

pub returns : goal.returns
returns c =
    let s = c.before.before.before in
    moved_crossed s.args.q s.args.x s.args.y s.requires.0.turned c.if-n-eq0.false c.along-2.ensures c.along-3.ensures
