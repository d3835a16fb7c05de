-- The numbers go in one after another, each in front of the chain of its key.
use mathlib.Core.Path.{refl}
use borrow.Author.Rules.{rules}
use lib.ListN.{length-set}
use Rattle.lists.proofs.Tables.{long}
use Rattle.chains.proofs.Chaining.{build_start, build_next, build_end}
use native.Mathlib.Omega.{arith}
use Rattle.chains.proofs.chain.Goals as goal

pub loop-i-init : goal.loop-i-init
loop-i-init c = (omega arith, search (long, rules), refl, refl, build_start _ _ 4096 1408)

pub loop-i-preserved : goal.loop-i-preserved
loop-i-preserved c = (
  omega arith,
  omega arith,
  simp length-set (omega arith),
  simp length-set (omega arith),
  build_next _ c.loop-i.invariant.4 c.key_of-k.ensures.0 (omega arith) (omega arith) (omega arith),
)

pub returns : goal.returns
returns c = build_end c.args.n c.loop-i.invariant.4 (omega arith)
