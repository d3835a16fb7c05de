-- `nets::join` meets its contract: whichever root is the larger gets the other as its alias.
use native.Mathlib.Omega.{arith}
use Rattle.nets.proofs.Roots.{root_low, join_up, join_down}
use Rattle.nets.proofs.join.Goals as goal

pub bounds-alias-y : goal.bounds-alias-y
bounds-alias-y c =
    omega (arith, c.root-y.ensures, root_low c.args.alias.now c.requires.falling c.args.v, c.requires.joint_v.high)

pub bounds-alias-x : goal.bounds-alias-x
bounds-alias-x c =
    omega (arith, c.root-x.ensures, root_low c.args.alias.now c.requires.falling c.args.u, c.requires.joint_u.high)

pub returns-then-x-y : goal.returns-then-x-y
returns-then-x-y c =
    join_up c.args.alias.now c.args.u c.args.v _ _ c.root-x.ensures c.root-y.ensures c.if-x-y.true

pub returns-else-x-y : goal.returns-else-x-y
returns-else-x-y c =
    join_down c.args.alias.now c.args.u c.args.v _ _ c.root-x.ensures c.root-y.ensures c.if-x-y.false
