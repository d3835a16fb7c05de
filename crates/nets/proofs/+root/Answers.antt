-- `nets::root` meets its contract: the number is its own root, or has that of its alias.
use mathlib.Core.Path.{sym, ◌∙◌}
use Prim.Native.Nat.{◌≤◌}
use native.Mathlib.Omega.{arith}
use lib.ListN.{get_or}
use Rattle.nets.proofs.Roots.{root_still, root_step}
use Rattle.nets.proofs.+root.Goals as goal

pub bounds-alias-n : goal.bounds-alias-n
bounds-alias-n t c = c.requires.0

pub root-requires : goal.root-requires
root-requires t c =
    let low : get_or c.args.alias.now c.args.n 0 ≤ c.args.n = c.requires.1.low c.args.n in
    (omega (arith, c.decreases, c.if-less-n.false), (omega (arith, c.requires.0), c.requires.1))

pub returns-then-less-n : goal.returns-then-less-n
returns-then-less-n t c = sym (root_still c.args.alias.now c.args.n c.if-less-n.true)

pub returns-else-less-n : goal.returns-else-less-n
returns-else-less-n t c = c.root.ensures ∙ sym (root_step c.args.alias.now c.requires.1 c.args.n)
