-- `nets::flatten` meets its contract: the places passed have their root.
use Prim.Native.Nat.{◌≤◌}
use native.Mathlib.Omega.{arith}
use borrow.Author.Rules.{rules}
use lib.ListN.{get_or}
use Rattle.nets.proofs.Flat.{flat_start, flat_low, flat_next, flat_end}
use Rattle.nets.proofs.flatten.Goals as goal

pub loop-n-init : goal.loop-n-init
loop-n-init c = flat_start c.args.alias (search rules)

-- an alias is no larger than its number
less-low : (c : goal.In-loop-n-unread-2) → get_or c.loop-n.nets c.loop-n.n 0 ≤ c.loop-n.n
less-low c = let l = c.loop-n in flat_low c.args.alias c.requires l.n l.nets l.invariant

pub overflow_cast-nets : goal.overflow_cast-nets
overflow_cast-nets c = omega (arith, less-low c)

pub offset_bounds-nets-less : goal.offset_bounds-nets-less
offset_bounds-nets-less c = omega (arith, less-low c)

pub bounds-nets-less : goal.bounds-nets-less
bounds-nets-less c = omega (arith, less-low c)

pub loop-n-preserved : goal.loop-n-preserved
loop-n-preserved c =
    let l = c.loop-n in
    flat_next c.args.alias c.requires l.n l.nets l.invariant c.loop-n-test.true

pub returns : goal.returns
returns c = let l = c.loop-n in flat_end c.args.alias l.n l.nets (omega arith) l.invariant
