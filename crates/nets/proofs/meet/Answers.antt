-- `nets::meet` meets its contract: a net without a rank gets the next one.
use Rattle.nets.proofs.Ranks.{ranked_new, ranked_old}
use Rattle.nets.proofs.meet.Goals as goal

pub returns-then-given-net-eq0 : goal.returns-then-given-net-eq0
returns-then-given-net-eq0 c = λ met r. ranked_new met c.args.count c.args.given.now c.args.net c.requires.net_low r c.if-given-net-eq0.true

pub returns : goal.returns
returns c = λ met r. ranked_old met c.args.count c.args.given.now c.args.net c.requires.net_low r c.if-given-net-eq0.false
