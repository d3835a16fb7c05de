-- A point's key leads back to the point: x fits 16 bits.
use borrow.Author.Rules.{rules}
use Rattle.joints.proofs.Keying.{key_spot}
use Rattle.joints.proofs.keys.key.Goals as goal

pub returns : goal.returns
returns c = key_spot c.args.p (search rules)
